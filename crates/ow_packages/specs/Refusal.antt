-- The number by which a client knows each refusal.
use Rattle.std.specs.Prelude.{ℕ}
use Rattle.ow_packages.specs.declared.refusal.PackageRefusal.{PackageRefusal}
use Rattle.ow_packages.specs.declared.refusal.PackageRefusal.TheVariants.{NotFound, BindsABinding, Fixed, NoMemory}

abbrev pub package_refusal_number : PackageRefusal → ℕ
package_refusal_number NoMemory = 0
package_refusal_number NotFound = 14
package_refusal_number BindsABinding = 15
package_refusal_number (Fixed name) = 16

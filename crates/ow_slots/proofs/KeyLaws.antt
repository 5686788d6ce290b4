-- Keys are distinguished by their values.
use Rattle.std.proofs.Common.{◌≡◌, ◌&&◌, ◌↔◌, ℕ, Bool, List, [], ◌∷◌, Option, Some, None, refl, ap, IsTrue}
use Rattle.std.specs.Bool.{Decides}
use Rattle.std.specs.Str.{bytes_eq}
use Rattle.std.proofs.lemmas.Bool.Decides.{same_from_decides, Decides-and, Decides-eqb}
use Rattle.std.proofs.lemmas.Slice.Eq.{bytes_eq-Decides}
use Rattle.ow_names.specs.declared.full.FullName.{FullName}
use Rattle.ow_entity.specs.declared.exec.Exec.{Exec}
use Rattle.ow_entity.specs.declared.exec.Exec.TheVariants.{Plain, Program, Sequence}
use Rattle.ow_slots.specs.declared.keys.Key.{Key}
use Rattle.ow_slots.specs.Key.{same_package, same_name, same_names, same_exec, same_key}

-- a test that decides one fact decides an equivalent fact
through : {P Q : Type 0} (b : Bool) → Decides b P → (P → Q) → (Q → P) → Decides b Q
through b d to back = (λ t. to (d.0 t), λ q. d.1 (back q))

package_told : (a b : Option (List ℕ)) → Decides (same_package a b) (a ≡ b)
package_told None None = (λ t. refl, λ e. refl)
package_told None (Some b) = (λ t. cc, λ e. cc)
package_told (Some a) None = (λ t. cc, λ e. cc)
package_told (Some a) (Some b) = through (bytes_eq a b) (bytes_eq-Decides a b) (λ e. ap Some e) (λ e. cc)

abbrev name_of : List ℕ → Option (List ℕ) → List ℕ → FullName
name_of namespace «package» name = record { namespace = namespace; «package» = «package»; name = name }

same_parts : (n n' : List ℕ) (p p' : Option (List ℕ)) (m m' : List ℕ) → n ≡ n' → p ≡ p' → m ≡ m' → name_of n p m ≡ name_of n' p' m'
same_parts n n' p p' m m' en ep em = cc

name_told : (a b : FullName) → Decides (same_name a b) (a ≡ b)
name_told a b = through (same_name a b)
    (Decides-and _ _ (bytes_eq-Decides a.namespace b.namespace) (Decides-and _ _ (package_told a.«package» b.«package») (bytes_eq-Decides a.name b.name)))
    (λ h. same_parts a.namespace b.namespace a.«package» b.«package» a.name b.name h.0 h.1.0 h.1.1)
    (λ e. (ap (λ (x : FullName). x.namespace) e, (ap (λ (x : FullName). x.«package») e, ap (λ (x : FullName). x.name) e)))

same_lists : (a b : FullName) (more bs : List FullName) → a ≡ b → more ≡ bs → (a ∷ more) ≡ (b ∷ bs)
same_lists a b more bs e h = λ i. e i ∷ h i

names_told : (a b : List FullName) → Decides (same_names a b) (a ≡ b)
names_told [] [] = (λ t. refl, λ e. refl)
names_told [] (b ∷ bs) = (λ t. cc, λ e. cc)
names_told (a ∷ more) [] = (λ t. cc, λ e. cc)
names_told (a ∷ more) (b ∷ bs) = through (same_name a b && same_names more bs)
    (Decides-and _ _ (name_told a b) (names_told more bs))
    (λ h. same_lists a b more bs h.0 h.1)
    (λ e. (cc, cc))

exec_told : (a b : Exec) → Decides (same_exec a b) (a ≡ b)
exec_told (Plain a) (Plain b) = through (bytes_eq a b) (bytes_eq-Decides a b) (λ e. ap Plain e) (λ e. cc)
exec_told (Plain a) (Program b) = (λ t. cc, λ e. cc)
exec_told (Program a) (Plain b) = (λ t. cc, λ e. cc)
exec_told (Program a) (Program b) = through (bytes_eq a b) (bytes_eq-Decides a b) (λ e. ap Program e) (λ e. cc)
exec_told (Plain a) (Sequence b) = (λ t. cc, λ e. cc)
exec_told (Program a) (Sequence b) = (λ t. cc, λ e. cc)
exec_told (Sequence a) (Plain b) = (λ t. cc, λ e. cc)
exec_told (Sequence a) (Program b) = (λ t. cc, λ e. cc)
exec_told (Sequence a) (Sequence b) = through (same_names a b) (names_told a b) (λ e. ap Sequence e) (λ e. cc)

abbrev key_of : List ℕ → FullName → ℕ → Exec → ℕ → Key
key_of namespace action version exec memory = record {
  namespace = namespace;
  action = action;
  version = version;
  exec = exec;
  memory = memory;
}

same_fields : (n n' : List ℕ) (f f' : FullName) (v v' : ℕ) (x x' : Exec) (m m' : ℕ) → n ≡ n' → f ≡ f' → v ≡ v' → x ≡ x' → m ≡ m'
    → key_of n f v x m ≡ key_of n' f' v' x' m'
same_fields n n' f f' v v' x x' m m' en ef ev ex em = cc

-- the test `same_key` decides whether keys are equal
pub key_told : (a b : Key) → Decides (same_key a b) (a ≡ b)
key_told a b = through (same_key a b)
    (Decides-and _ _ (bytes_eq-Decides a.namespace b.namespace)
    (Decides-and _ _ (name_told a.action b.action)
    (Decides-and _ _ (Decides-eqb a.version b.version)
    (Decides-and _ _ (exec_told a.exec b.exec) (Decides-eqb a.memory b.memory)))))
    (λ h. same_fields a.namespace b.namespace a.action b.action a.version b.version a.exec b.exec a.memory b.memory
    h.0 h.1.0 h.1.1.0 h.1.1.1.0 h.1.1.1.1)
    (λ e. (
      ap (λ (x : Key). x.namespace) e,
      (
        ap (λ (x : Key). x.action) e,
        (
          ap (λ (x : Key). x.version) e,
          (ap (λ (x : Key). x.exec) e, ap (λ (x : Key). x.memory) e),
        ),
      ),
    ))

-- and each test that decides this has the same result
pub told : (r : Bool) (a b : Key) → (IsTrue r ↔ (a ≡ b)) → r ≡ same_key a b
told r a b e = same_from_decides r (same_key a b) (e.0, e.1) (key_told a b)

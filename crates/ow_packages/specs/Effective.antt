-- What a name of an action calls, and with which parameters.
use Rattle.std.specs.Prelude.{◌≡◌, ◌≢◌, ℕ, List, [], option_map, option_and_then, if◌then◌else◌, Option, Some, None, Result, MatchResult}
use Rattle.std.specs.Str.{bytes_eq}
use Rattle.ow_value.specs.Value.{Pairs}
use Rattle.std.specs.Option.{option_or}
use Rattle.ow_value.specs.Find.{find, merge}
use Rattle.ow_names.specs.declared.full.FullName.{FullName}
use Rattle.ow_entity.specs.declared.actions.Action.{Action}
use Rattle.ow_entity.specs.declared.packages.Package.{Package}
use Rattle.ow_packages.specs.Access.{Standing, action_at, package_of, lying_in, reached_package}
use Rattle.ow_packages.specs.declared.effective_action.Effective.{Effective}
use Rattle.ow_packages.specs.declared.refusal.PackageRefusal.{PackageRefusal}
use Rattle.ow_packages.specs.declared.refusal.PackageRefusal.TheVariants.{NotFound, NoMemory}

-- what a name refers to: the action, the binding that the name goes through, and the package in which the action lies
pub record Behind : Type 0 where
  pub action : Action
  pub binding : Option Package
  pub inside : Option Package

-- ---- what a name refers to

-- an action outside packages is reached from its own namespace alone
abbrev pub behind_bare : Standing → FullName → List ℕ → Option Behind
behind_bare standing name from =
    if bytes_eq name.namespace from
    then option_map (λ a. record { action = a; binding = None; inside = None }) (action_at standing name)
    else None

-- a package that is no binding has the action itself; the package that a binding binds is reached from the binding's
-- namespace, and has the action whatever it binds itself
abbrev pub behind_in : Standing → FullName → Package → Option FullName → Option Behind
behind_in standing name p None =
    option_map (λ a. record { action = a; binding = None; inside = Some p }) (action_at standing name)
behind_in standing name p (Some target) =
    option_and_then (λ bound. option_map (λ a. record { action = a; binding = Some p; inside = Some bound }) (action_at standing (lying_in target name.name)))
    (reached_package standing target p.name.namespace)

abbrev pub behind_package : Standing → FullName → Option Package → Option Behind
behind_package standing name None = None
behind_package standing name (Some p) = behind_in standing name p p.binding

abbrev pub behind_name : Standing → FullName → List ℕ → Option FullName → Option Behind
behind_name standing name from None = behind_bare standing name from
behind_name standing name from (Some «package») = behind_package standing name (reached_package standing «package» from)

-- what the name refers to for a caller in the namespace
abbrev pub behind : Standing → FullName → List ℕ → Option Behind
behind standing name from = behind_name standing name from (package_of name)

-- ---- its parameters

abbrev pub params_of : Option Package → Pairs
params_of None = []
params_of (Some p) = p.params

-- the parameters, with those of the package below them
abbrev pub params_over : Option Package → Pairs → Pairs
params_over None ps = ps
params_over (Some p) ps = merge p.params ps

-- the action's parameters over the binding's over the package's
abbrev pub effective_of : Behind → Effective
effective_of b = record {
  action = b.action;
  params = params_over b.inside (params_over b.binding b.action.params);
  binding = option_map (λ p. p.name) b.binding;
}

-- what the name calls for a caller in the namespace, if anything
unfoldable pub effective : Standing → FullName → List ℕ → Option Effective
effective standing name from = option_map effective_of (behind standing name from)

-- ---- what each name finds

-- the call's value is taken, else the action's, else the binding's, else the package's
abbrev pub FindsEach : Pairs → Behind → Type 0
FindsEach ps b = (given : Pairs) (q : List ℕ) → find q (merge ps given)
    ≡ option_or (find q given) (option_or (find q b.action.params) (option_or (find q (params_of b.binding)) (find q (params_of b.inside))))

-- ---- for private clauses

-- the answer is what the name refers to, and it is refused exactly where the name refers to nothing
abbrev pub Answers : Option Behind → Result Effective PackageRefusal → Type 0
Answers o r = MatchResult r (λ e. option_map effective_of o ≡ Some e) (λ e. e ≢ NoMemory → (e ≡ NotFound) × (o ≡ None))

-- Whether a path of components leads back to a sequence.
use Rattle.std.proofs.Common.{◌≡◌, ◌⊎◌, ◌↔◌, ◌≤◌, ◌+◌, ℕ, zero, suc, Bool, true, false, not, cond, is_some, length, drop, find, List, [], ◌∷◌, ◌++◌, Option, Some, None, refl, sym, ap, ◌∙◌, subst, append_assoc, append-nil, inl, inr, ⊎_elim, arith}
use Rattle.std.specs.List.{AllByRecursion}
use Rattle.std.specs.Str.{bytes_eq}
use Rattle.std.proofs.lemmas.Slice.Eq.{bytes_eq-Decides}
use Rattle.ow_names.specs.declared.full.FullName.{FullName}
use Rattle.ow_entity.specs.Exec.{components_of}
use Rattle.ow_entity.specs.Finish.{as_action}
use Rattle.ow_entity.specs.declared.actions.Action.{Action}
use Rattle.ow_entity.specs.declared.kinds.EntityKind.TheVariants as kinds
use Rattle.ow_entity.specs.declared.rows.Row.{Row}
use Rattle.ow_entity.specs.declared.rows.Row.TheVariants as rows
use Rattle.ow_packages.specs.Access.{Standing, action_at}
use Rattle.ow_tables.specs.Rows.{found, key, key_of, standing, with_row}
use Rattle.ow_tables.specs.Paths.{HasPathBack, IsIn, IsPath, LoopsAreFound}
use Rattle.ow_tables.specs.Sequences.{Trail, found_on, is_named, leads, leads_back, leads_or, looked_at, named_action, next_leads, no_trail, trail_with}
use Rattle.ow_tables.proofs.Found.{put_finds}

-- ---- lists

all_end : {A : Type 0} (P : A → Type 0) (xs : List A) (x : A) → AllByRecursion P xs → P x → AllByRecursion P (xs ++ x ∷ [])
all_end P [] x h p = (p, tt)
all_end P (y ∷ ys) x h p = (h.0, all_end P ys x h.1 p)

all_drop : {A : Type 0} (P : A → Type 0) (k : ℕ) (xs : List A) → AllByRecursion P xs → AllByRecursion P (drop k xs)
all_drop P zero xs h = h
all_drop P (suc k) [] h = tt
all_drop P (suc k) (x ∷ xs) h = all_drop P k xs h.1

all_in : {A : Type 0} (P : A → Type 0) (xs : List A) → ((x : A) → IsIn x xs → P x) → AllByRecursion P xs
all_in P [] h = tt
all_in P (x ∷ xs) h = (h x (inl refl), all_in P xs (λ y m. h y (inr m)))

at_in : {A : Type 0} (P : A → Type 0) (x : A) (xs : List A) → AllByRecursion P xs → IsIn x xs → P x
at_in P x [] h m = absurd m
at_in P x (y ∷ ys) h (inl e) = subst P (sym e) h.0
at_in P x (y ∷ ys) h (inr m) = at_in P x ys h.1 m

in_front : {A : Type 0} (x : A) (xs ys : List A) → IsIn x xs → IsIn x (xs ++ ys)
in_front x [] ys m = absurd m
in_front x (y ∷ xs) ys (inl e) = inl e
in_front x (y ∷ xs) ys (inr m) = inr (in_front x xs ys m)

in_rest : {A : Type 0} (x : A) (xs ys : List A) → IsIn x ys → IsIn x (xs ++ ys)
in_rest x [] ys m = m
in_rest x (y ∷ xs) ys m = inr (in_rest x xs ys m)

in_either : {A : Type 0} (x : A) (xs ys : List A) → IsIn x (xs ++ ys) → IsIn x xs ⊎ IsIn x ys
in_either x [] ys m = inr m
in_either x (y ∷ xs) ys (inl e) = inl (inl e)
in_either x (y ∷ xs) ys (inr m) = ⊎_elim (λ k. inl (inr k)) (λ k. inr k) (in_either x xs ys m)

drop_more : {A : Type 0} (k : ℕ) (xs : List A) (a : A) (rest ys : List A) → drop k xs ≡ a ∷ rest → drop (suc k) (xs ++ ys) ≡ rest ++ ys
drop_more zero xs a rest ys e = ap (λ zs. drop 1 (zs ++ ys)) e
drop_more (suc k) [] a rest ys e = cc
drop_more (suc k) (x ∷ xs) a rest ys e = drop_more k xs a rest ys e

drop_past : {A : Type 0} (k : ℕ) (xs : List A) → length xs ≤ k → drop k xs ≡ []
drop_past zero [] h = refl
drop_past zero (x ∷ xs) h = absurd (omega (arith, h))
drop_past (suc k) [] h = refl
drop_past (suc k) (x ∷ xs) h = drop_past k xs (omega (arith, h))

-- ---- what is found to lead there leads there

-- a path from it to the goal would show the conclusion
abbrev Reaches : Standing → FullName → Type 0 → Action → Type 0
Reaches standing goal L a = (path : List Action) → IsPath standing goal (components_of a.exec) path → L

abbrev Passes : Standing → FullName → Type 0 → FullName → Type 0
Passes standing goal L c = (is_named (named_action standing c) goal ≡ true → L) × ((b : Action) → action_at standing (named_action standing c) ≡ Some b → Reaches standing goal L b)

passing : (standing : Standing) (goal : FullName) (L : Type 0) (a : Action) → Reaches standing goal L a → AllByRecursion (Passes standing goal L) (components_of a.exec)
passing standing goal L a reach = all_in (Passes standing goal L) (components_of a.exec) (λ c m. (λ e. reach [] (c, (m, e)), λ b e path p. reach (b ∷ path) (c, (m, (e, p)))))

found_good : (standing : Standing) (R : Action → Type 0) (s : Bool) (o : Option Action) (t : Trail) → ((b : Action) → o ≡ Some b → R b) → AllByRecursion R t.queue
    → AllByRecursion R (cond s t (trail_with o t)).queue
found_good standing R true o t h all = all
found_good standing R false None t h all = all
found_good standing R false (Some b) t h all = all_end R t.queue b all (h b refl)

abbrev IsGoodLook : (Action → Type 0) → Type 0 → Option Trail → Type 0
IsGoodLook R L None = L
IsGoodLook R L (Some t) = AllByRecursion R t.queue

looked_good : (standing : Standing) (goal : FullName) (L : Type 0) (cs : List FullName) (t : Trail) → AllByRecursion (Passes standing goal L) cs → AllByRecursion (Reaches standing goal L) t.queue
    → IsGoodLook (Reaches standing goal L) L (looked_at standing goal cs t)
looked_good standing goal L [] t h all = all
looked_good standing goal L (c ∷ cs) t h all = by_name (is_named (named_action standing c) goal) refl
    (looked_good standing goal L cs (found_on standing (named_action standing c) t) h.1
    (found_good standing (Reaches standing goal L) (is_some (found kinds.Action (named_action standing c) t.seen)) (action_at standing (named_action standing c)) t h.0.1 all))
  where
    by_name : (b : Bool) → is_named (named_action standing c) goal ≡ b
        → IsGoodLook (Reaches standing goal L) L (looked_at standing goal cs (found_on standing (named_action standing c) t))
        → IsGoodLook (Reaches standing goal L) L (cond b None (looked_at standing goal cs (found_on standing (named_action standing c) t)))
    by_name true e more = h.0.0 e
    by_name false e more = more

leads_good : (standing : Standing) (goal : FullName) (L : Type 0) (n k : ℕ) (t : Trail) → AllByRecursion (Reaches standing goal L) t.queue → leads standing goal n k t ≡ true → L
leads_good standing goal L zero k t all e = cc
leads_good standing goal L (suc n) k t all e = by_next (drop k t.queue) (all_drop (Reaches standing goal L) k t.queue all) (leads_good standing goal L n (suc k)) e
  where
    by_look : (o : Option Trail) → IsGoodLook (Reaches standing goal L) L o → ((u : Trail) → AllByRecursion (Reaches standing goal L) u.queue → leads standing goal n (suc k) u ≡ true → L)
        → leads_or (leads standing goal n (suc k)) o ≡ true → L
    by_look None h more e = h
    by_look (Some u) h more e = more u h e

    by_next : (rest : List Action) → AllByRecursion (Reaches standing goal L) rest → ((u : Trail) → AllByRecursion (Reaches standing goal L) u.queue → leads standing goal n (suc k) u ≡ true → L)
        → next_leads standing goal (leads standing goal n (suc k)) t rest ≡ true → L
    by_next [] h more e = cc
    by_next (a ∷ rest) h more e = by_look (looked_at standing goal (components_of a.exec) t) (looked_good standing goal L (components_of a.exec) t (passing standing goal L a h.0) all) more e

path_back : (all : List Row) (a : Action) → leads_back (standing all) (length all) a ≡ true → HasPathBack all a
path_back all a e = by_look (looked_at (standing all) a.name (components_of a.exec) no_trail)
    (looked_good (standing all) a.name (HasPathBack all a) (components_of a.exec) no_trail (passing (standing all) a.name (HasPathBack all a) a (λ path p. (path, p))) tt) e
  where
    by_look : (o : Option Trail) → IsGoodLook (Reaches (standing all) a.name (HasPathBack all a)) (HasPathBack all a) o → leads_or (leads (standing all) a.name (length all) 0) o ≡ true → HasPathBack all a
    by_look None h e = h
    by_look (Some t) h e = leads_good (standing all) a.name (HasPathBack all a) (length all) 0 t h e

-- ---- rows and their keys

abbrev finds : List ℕ → List Row → Option Row
finds k rs = find (λ r. bytes_eq k (key_of r)) rs

finds_key : (k : List ℕ) (rs : List Row) (r : Row) → finds k rs ≡ Some r → k ≡ key_of r
finds_key k [] r e = cc
finds_key k (x ∷ xs) r e = by_key (bytes_eq k (key_of x)) refl (finds_key k xs r) e
  where
    by_key : (b : Bool) → bytes_eq k (key_of x) ≡ b → (finds k xs ≡ Some r → k ≡ key_of r) → cond b (Some x) (finds k xs) ≡ Some r → k ≡ key_of r
    by_key true is more f = let same : x ≡ r = cc in (bytes_eq-Decides k (key_of x)).0 is ∙ ap key_of same
    by_key false is more f = more f

finds_in : (k : List ℕ) (rs : List Row) (r : Row) → finds k rs ≡ Some r → IsIn r rs
finds_in k [] r e = cc
finds_in k (x ∷ xs) r e = by_key (bytes_eq k (key_of x)) (finds_in k xs r) e
  where
    by_key : (b : Bool) → (finds k xs ≡ Some r → IsIn r xs) → cond b (Some x) (finds k xs) ≡ Some r → IsIn r (x ∷ xs)
    by_key true more f = inl cc
    by_key false more f = inr (more f)

action_row : (o : Option Row) (a : Action) → as_action o ≡ Some a → o ≡ Some (rows.Action a)
action_row None a e = cc
action_row (Some (rows.Action b)) a e = cc
action_row (Some (rows.Package p)) a e = cc
action_row (Some (rows.Rule r)) a e = cc
action_row (Some (rows.Trigger t)) a e = cc

-- two names under which one action is stored call the same
same_action : (all : List Row) (m n : FullName) (a b : Action) → action_at (standing all) m ≡ Some a → key kinds.Action n ≡ key_of (rows.Action a) → action_at (standing all) n ≡ Some b → b ≡ a
same_action all m n a b e same f =
    let here : finds (key kinds.Action m) all ≡ Some (rows.Action a) = action_row (found kinds.Action m all) a e in
    let keys : key kinds.Action n ≡ key kinds.Action m = same ∙ sym (finds_key (key kinds.Action m) all (rows.Action a) here) in
    let there : as_action (finds (key kinds.Action n) all) ≡ Some a = ap (λ k. as_action (finds k all)) keys ∙ e in
    let both : Some b ≡ Some a = sym f ∙ there in
    cc

-- ---- how many rows were not found yet

abbrev how_many : (Row → Bool) → List Row → ℕ
how_many p [] = 0
how_many p (r ∷ rs) = cond (p r) (suc (how_many p rs)) (how_many p rs)

no_more : (p q : Row → Bool) (rs : List Row) → ((r : Row) → q r ≡ true → p r ≡ true) → how_many q rs ≤ how_many p rs
no_more p q [] h = omega arith
no_more p q (r ∷ rs) h = by_both (p r) (q r) (h r) (no_more p q rs h)
  where
    by_both : (a b : Bool) → (b ≡ true → a ≡ true) → how_many q rs ≤ how_many p rs → cond b (suc (how_many q rs)) (how_many q rs) ≤ cond a (suc (how_many p rs)) (how_many p rs)
    by_both true true h less = omega (arith, less)
    by_both true false h less = omega (arith, less)
    by_both false true h less = let wrong : false ≡ true = h refl in cc
    by_both false false h less = less

one_less : (p q : Row → Bool) (rs : List Row) (x : Row) → IsIn x rs → p x ≡ true → q x ≡ false → ((r : Row) → q r ≡ true → p r ≡ true) → how_many q rs + 1 ≤ how_many p rs
one_less p q [] x m e f h = absurd m
one_less p q (r ∷ rs) x (inl same) e f h = by_test (p r) (q r) (ap p (sym same) ∙ e) (ap q (sym same) ∙ f) (no_more p q rs h)
  where
    by_test : (a b : Bool) → a ≡ true → b ≡ false → how_many q rs ≤ how_many p rs → cond b (suc (how_many q rs)) (how_many q rs) + 1 ≤ cond a (suc (how_many p rs)) (how_many p rs)
    by_test true false e f less = omega (arith, less)
    by_test true true e f less = cc
    by_test false b e f less = cc
one_less p q (r ∷ rs) x (inr m) e f h = by_both (p r) (q r) (h r) (one_less p q rs x m e f h)
  where
    by_both : (a b : Bool) → (b ≡ true → a ≡ true) → how_many q rs + 1 ≤ how_many p rs → cond b (suc (how_many q rs)) (how_many q rs) + 1 ≤ cond a (suc (how_many p rs)) (how_many p rs)
    by_both true true h less = omega (arith, less)
    by_both true false h less = omega (arith, less)
    by_both false true h less = let wrong : false ≡ true = h refl in cc
    by_both false false h less = less

at_most_all : (p : Row → Bool) (rs : List Row) → how_many p rs ≤ length rs
at_most_all p [] = omega arith
at_most_all p (r ∷ rs) = by_one (p r) (at_most_all p rs)
  where
    by_one : (b : Bool) → how_many p rs ≤ length rs → cond b (suc (how_many p rs)) (how_many p rs) ≤ suc (length rs)
    by_one true less = omega (arith, less)
    by_one false less = omega (arith, less)

-- no row of its key was found so far
abbrev is_new : List Row → Row → Bool
is_new seen r = not (is_some (finds (key_of r) seen))

-- ---- what a trail has

-- each action that was seen is in the queue, and the queue has no more actions than rows were seen
record IsKept (all : List Row) (t : Trail) : Type 0 where
  queued : (name : FullName) (a : Action) → is_some (found kinds.Action name t.seen) ≡ true → action_at (standing all) name ≡ Some a → IsIn a t.queue
  room : length t.queue + how_many (is_new t.seen) all ≤ length all

abbrev Follows : Trail → Trail → Type 0
Follows t u = (more : List Action) × (u.queue ≡ t.queue ++ more)

kept_joined : (all : List Row) (name : FullName) (a : Action) (t : Trail) → IsKept all t → is_some (found kinds.Action name t.seen) ≡ false → action_at (standing all) name ≡ Some a
    → IsKept all (trail_with (Some a) t)
kept_joined all name a t kept new e =
    let here : finds (key kinds.Action name) all ≡ Some (rows.Action a) = action_row (found kinds.Action name all) a e in
    let keys : key kinds.Action name ≡ key_of (rows.Action a) = finds_key (key kinds.Action name) all (rows.Action a) here in
    let less : how_many (is_new (with_row (rows.Action a) t.seen)) all + 1 ≤ how_many (is_new t.seen) all =
    one_less (is_new t.seen) (is_new (with_row (rows.Action a) t.seen)) all (rows.Action a) (finds_in (key kinds.Action name) all (rows.Action a) here)
    (ap not (ap (λ k. is_some (finds k t.seen)) (sym keys) ∙ new))
    (ap (λ o. not (is_some o)) (put_finds (key_of (rows.Action a)) (rows.Action a) t.seen)
    ∙ ap (λ b. not (is_some (cond b (Some (rows.Action a)) (finds (key_of (rows.Action a)) t.seen)))) ((bytes_eq-Decides (key_of (rows.Action a)) (key_of (rows.Action a))).1 refl))
    (λ r is. still (bytes_eq (key_of r) (key_of (rows.Action a))) (finds (key_of r) t.seen) (ap (λ o. not (is_some o)) (sym (put_finds (key_of r) (rows.Action a) t.seen)) ∙ is)) in
    let one : length (t.queue ++ a ∷ []) ≡ length t.queue + 1 = more_by_one t.queue in
    let before : length t.queue + how_many (is_new t.seen) all ≤ length all = kept.room in
    record {
      queued = λ n b seen f. by_key n b (bytes_eq (key kinds.Action n) (key_of (rows.Action a))) refl (ap is_some (sym (put_finds (key kinds.Action n) (rows.Action a) t.seen)) ∙ seen) f;
      room = omega (arith, less, one, before);
    }
  where
    still : (b : Bool) (o : Option Row) → not (is_some (cond b (Some (rows.Action a)) o)) ≡ true → not (is_some o) ≡ true
    still true o is = cc
    still false o is = is

    more_by_one : (xs : List Action) → length (xs ++ a ∷ []) ≡ length xs + 1
    more_by_one [] = refl
    more_by_one (x ∷ xs) = omega (arith, more_by_one xs)

    by_key : (n : FullName) (b : Action) (s : Bool) → bytes_eq (key kinds.Action n) (key_of (rows.Action a)) ≡ s
        → is_some (cond s (Some (rows.Action a)) (finds (key kinds.Action n) t.seen)) ≡ true → action_at (standing all) n ≡ Some b → IsIn b (t.queue ++ a ∷ [])
    by_key n b true is seen f = in_rest b t.queue (a ∷ []) (inl (same_action all name n a b e ((bytes_eq-Decides (key kinds.Action n) (key_of (rows.Action a))).0 is) f))
    by_key n b false is seen f = in_front b t.queue (a ∷ []) (kept.queued n b seen f)

record IsFoundOn (all : List Row) (name : FullName) (t u : Trail) : Type 0 where
  kept : IsKept all u
  follows : Follows t u
  queued : (a : Action) → action_at (standing all) name ≡ Some a → IsIn a u.queue

found_kept : (all : List Row) (name : FullName) (t : Trail) → IsKept all t → IsFoundOn all name t (found_on (standing all) name t)
found_kept all name t kept = by_seen (is_some (found kinds.Action name t.seen)) (action_at (standing all) name) refl refl
  where
    by_seen : (s : Bool) (o : Option Action) → is_some (found kinds.Action name t.seen) ≡ s → action_at (standing all) name ≡ o → IsFoundOn all name t (cond s t (trail_with o t))
    by_seen true o is e = record { kept = kept; follows = ([], sym (append-nil t.queue)); queued = λ a f. kept.queued name a is f }
    by_seen false None is e = record { kept = kept; follows = ([], sym (append-nil t.queue)); queued = λ a f. let wrong : Some a ≡ None = sym f ∙ e in cc }
    by_seen false (Some b) is e = record {
      kept = kept_joined all name b t kept is e;
      follows = (b ∷ [], refl);
      queued = λ a f. let same : Some a ≡ Some b = sym f ∙ e in in_rest a t.queue (b ∷ []) (inl cc);
    }

-- ---- what is not found to lead there does not

-- the component isn't the goal, and its action is queued
abbrev IsLooked : List Row → FullName → List Action → FullName → Type 0
IsLooked all goal queue c = (is_named (named_action (standing all) c) goal ≡ false) × ((a : Action) → action_at (standing all) (named_action (standing all) c) ≡ Some a → IsIn a queue)

abbrev IsDone : List Row → FullName → List Action → Action → Type 0
IsDone all goal queue a = AllByRecursion (IsLooked all goal queue) (components_of a.exec)

looked_more : (all : List Row) (goal : FullName) (queue more : List Action) (cs : List FullName) → AllByRecursion (IsLooked all goal queue) cs → AllByRecursion (IsLooked all goal (queue ++ more)) cs
looked_more all goal queue more [] h = tt
looked_more all goal queue more (c ∷ cs) h = ((h.0.0, λ a e. in_front a queue more (h.0.1 a e)), looked_more all goal queue more cs h.1)

abbrev IsLookedAt : List Row → FullName → Trail → List FullName → Option Trail → Type 0
IsLookedAt all goal t cs None = Unit {0}
IsLookedAt all goal t cs (Some u) = IsKept all u × (Follows t u × AllByRecursion (IsLooked all goal u.queue) cs)

looked_done : (all : List Row) (goal : FullName) (cs : List FullName) (t : Trail) → IsKept all t → IsLookedAt all goal t cs (looked_at (standing all) goal cs t)
looked_done all goal [] t kept = (kept, (([], sym (append-nil t.queue)), tt))
looked_done all goal (c ∷ cs) t kept = by_name (is_named (named_action (standing all) c) goal) refl (found_kept all (named_action (standing all) c) t kept)
    (looked_done all goal cs (found_on (standing all) (named_action (standing all) c) t) (found_kept all (named_action (standing all) c) t kept).kept)
  where
    lifted : (u : Trail) (o : Option Trail) → IsFoundOn all (named_action (standing all) c) t u → is_named (named_action (standing all) c) goal ≡ false → IsLookedAt all goal u cs o
        → IsLookedAt all goal t (c ∷ cs) o
    lifted u None first e h = tt
    lifted u (Some v) first e h =
        let one = first.follows in
        let two = h.1.0 in
        let queue : v.queue ≡ t.queue ++ (one.0 ++ two.0) = two.1 ∙ (ap (λ q. q ++ two.0) one.1 ∙ append_assoc t.queue one.0 two.0) in
        (h.0, ((one.0 ++ two.0, queue), ((e, λ a f. subst (IsIn a) (sym two.1) (in_front a u.queue two.0 (first.queued a f))), h.1.1)))

    by_name : (b : Bool) → is_named (named_action (standing all) c) goal ≡ b
        → IsFoundOn all (named_action (standing all) c) t (found_on (standing all) (named_action (standing all) c) t)
        → IsLookedAt all goal (found_on (standing all) (named_action (standing all) c) t) cs (looked_at (standing all) goal cs (found_on (standing all) (named_action (standing all) c) t))
        → IsLookedAt all goal t (c ∷ cs) (cond b None (looked_at (standing all) goal cs (found_on (standing all) (named_action (standing all) c) t)))
    by_name true e first h = tt
    by_name false e first h =
        lifted (found_on (standing all) (named_action (standing all) c) t) (looked_at (standing all) goal cs (found_on (standing all) (named_action (standing all) c) t)) first e h

-- each queued action is still to come or done
abbrev IsOnWay : List Row → FullName → ℕ → Trail → Type 0
IsOnWay all goal k t = (a : Action) → IsIn a t.queue → IsIn a (drop k t.queue) ⊎ IsDone all goal t.queue a

-- a trail of which all is done, after this one
record IsClosed (all : List Row) (goal : FullName) (t : Trail) : Type 0 where
  last : Trail
  follows : Follows t last
  done : (a : Action) → IsIn a last.queue → IsDone all goal last.queue a

closed_here : (all : List Row) (goal : FullName) (k : ℕ) (t : Trail) → drop k t.queue ≡ [] → IsOnWay all goal k t → IsClosed all goal t
closed_here all goal k t e way = record {
  last = t;
  follows = ([], sym (append-nil t.queue));
  done = λ a m. ⊎_elim (λ d. let none : IsIn a [] = subst (IsIn a) e d in absurd none) (λ d. d) (way a m);
}

closed_before : (all : List Row) (goal : FullName) (t u : Trail) → Follows t u → IsClosed all goal u → IsClosed all goal t
closed_before all goal t u f c = record {
  last = c.last;
  follows = (f.0 ++ c.follows.0, c.follows.1 ∙ (ap (λ q. q ++ c.follows.0) f.1 ∙ append_assoc t.queue f.0 c.follows.0));
  done = c.done;
}

on_way : (all : List Row) (goal : FullName) (k : ℕ) (t u : Trail) (b : Action) (bs : List Action) → drop k t.queue ≡ b ∷ bs → IsOnWay all goal k t → Follows t u → IsDone all goal u.queue b
    → IsOnWay all goal (suc k) u
on_way all goal k t u b bs e way f done = λ a m.
    subst (λ q. IsIn a (drop (suc k) q) ⊎ IsDone all goal q a) (sym f.1)
    (⊎_elim (λ old. ⊎_elim (λ rest. still a (subst (IsIn a) e rest)) (λ before. inr (looked_more all goal t.queue f.0 (components_of a.exec) before)) (way a old))
    (λ new. inl (subst (IsIn a) (sym rest_is) (in_rest a bs f.0 new)))
    (in_either a t.queue f.0 (subst (IsIn a) f.1 m)))
  where
    rest_is : drop (suc k) (t.queue ++ f.0) ≡ bs ++ f.0
    rest_is = drop_more k t.queue b bs f.0 e

    still : (a : Action) → IsIn a (b ∷ bs) → IsIn a (drop (suc k) (t.queue ++ f.0)) ⊎ IsDone all goal (t.queue ++ f.0) a
    still a (inl same) = inr (subst (λ q. IsDone all goal q a) f.1 (subst (IsDone all goal u.queue) (sym same) done))
    still a (inr m) = inl (subst (IsIn a) (sym rest_is) (in_front a bs f.0 m))

leads_done : (all : List Row) (goal : FullName) (n k : ℕ) (t : Trail) → IsKept all t → n + k ≡ length all → IsOnWay all goal k t → leads (standing all) goal n k t ≡ false → IsClosed all goal t
leads_done all goal zero k t kept sum way e =
    let room : length t.queue + how_many (is_new t.seen) all ≤ length all = kept.room in
    closed_here all goal k t (drop_past k t.queue (omega (arith, room, sum))) way
leads_done all goal (suc n) k t kept sum way e = by_next (drop k t.queue) refl (leads_done all goal n (suc k)) e
  where
    by_look : (b : Action) (bs : List Action) → drop k t.queue ≡ b ∷ bs → (o : Option Trail) → IsLookedAt all goal t (components_of b.exec) o
        → ((u : Trail) → IsKept all u → n + suc k ≡ length all → IsOnWay all goal (suc k) u → leads (standing all) goal n (suc k) u ≡ false → IsClosed all goal u)
        → leads_or (leads (standing all) goal n (suc k)) o ≡ false → IsClosed all goal t
    by_look b bs at None h more e = cc
    by_look b bs at (Some u) h more e =
        closed_before all goal t u h.1.0 (more u h.0 (omega (arith, sum)) (on_way all goal k t u b bs at way h.1.0 h.1.1) e)

    by_next : (rest : List Action) → drop k t.queue ≡ rest
        → ((u : Trail) → IsKept all u → n + suc k ≡ length all → IsOnWay all goal (suc k) u → leads (standing all) goal n (suc k) u ≡ false → IsClosed all goal u)
        → next_leads (standing all) goal (leads (standing all) goal n (suc k)) t rest ≡ false → IsClosed all goal t
    by_next [] at more e = closed_here all goal k t at way
    by_next (b ∷ bs) at more e = by_look b bs at (looked_at (standing all) goal (components_of b.exec) t) (looked_done all goal (components_of b.exec) t kept) more e

no_path : (all : List Row) (goal : FullName) (queue : List Action) → ((a : Action) → IsIn a queue → IsDone all goal queue a)
    → (path : List Action) (cs : List FullName) → AllByRecursion (IsLooked all goal queue) cs → IsPath (standing all) goal cs path → ⊥
no_path all goal queue closed [] cs h p =
    let wrong : false ≡ true = sym (at_in (IsLooked all goal queue) p.0 cs h p.1.0).0 ∙ p.1.1 in cc
no_path all goal queue closed (b ∷ bs) cs h p =
    no_path all goal queue closed bs (components_of b.exec) (closed b ((at_in (IsLooked all goal queue) p.0 cs h p.1.0).1 b p.1.1.0)) p.1.1.1

no_trail_kept : (all : List Row) → IsKept all no_trail
no_trail_kept all = record {
  queued = λ name a e f. cc;
  room = let less : how_many (is_new []) all ≤ length all = at_most_all (is_new []) all in omega (arith, less);
}

-- where it isn't found to lead back, no path does
none_back : (all : List Row) (a : Action) → leads_back (standing all) (length all) a ≡ false → HasPathBack all a → ⊥
none_back all a e p = by_look (looked_at (standing all) a.name (components_of a.exec) no_trail) (looked_done all a.name (components_of a.exec) no_trail (no_trail_kept all)) e
  where
    by_look : (o : Option Trail) → IsLookedAt all a.name no_trail (components_of a.exec) o → leads_or (leads (standing all) a.name (length all) 0) o ≡ false → ⊥
    by_look None h e = cc
    by_look (Some t) h e =
        let end = leads_done all a.name (length all) 0 t h.0 (omega arith) (λ b m. inl m) e in
        no_path all a.name end.last.queue end.done p.0 (components_of a.exec)
        (subst (λ q. AllByRecursion (IsLooked all a.name q) (components_of a.exec)) (sym end.follows.1) (looked_more all a.name t.queue end.follows.0 (components_of a.exec) h.1.1)) p.1

pub loops_are_found : LoopsAreFound
loops_are_found all a = (path_back all a, λ p. by_test (leads_back (standing all) (length all) a) refl p)
  where
    by_test : (b : Bool) → leads_back (standing all) (length all) a ≡ b → HasPathBack all a → b ≡ true
    by_test true e p = refl
    by_test false e p = absurd (none_back all a e p)

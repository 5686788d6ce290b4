-- What is accepted is open or has ended, once. So the open ones are counted as the accepted ones less the ended ones.
use Rattle.std.proofs.Common.{◌≡◌, ◌+◌, ◌≤◌, ◌++◌, ℕ, Bool, true, false, cond, List, [], ◌∷◌, inl, inr, map, refl, sym, ap, ◌∙◌, subst, arith}
use Rattle.std.specs.Prelude.{◌&&◌, count_by, is_none}
use Rattle.std.specs.List.{find, AllByRecursion}
use Rattle.std.proofs.lemmas.List.Sums.{sum_by-append}
use Rattle.ow_records.specs.declared.ids.Id.{Id}
use Rattle.ow_records.specs.Id.{same_id}
use Rattle.ow_records.specs.declared.activations.Activation.{Activation}
use Rattle.ow_records.specs.Records.{is_of_id}
use Rattle.ow_floor.specs.Trace.{End, record_of}
use Rattle.ow_floor.specs.Laws.{AreApart, IsAmong, IsApart, times}
use Rattle.ow_floor.proofs.Alters.{same_id_refl}
use Rattle.ow_floor.proofs.Among.{all_among}
use Rattle.ow_floor.proofs.Apart.{turned}
use Rattle.ow_tenant.specs.Queue.{with_one}

-- ---- counts

pub count-cons : {X : Type 0} (p : X → Bool) (x : X) (xs : List X) → count_by p (x ∷ xs) ≡ with_one (p x) (count_by p xs)
count-cons p x xs = sum_by-append (λ y. cond (p y) 1 0) (x ∷ []) xs ∙ one (p x)
  where
    one : (b : Bool) → (0 + cond b 1 0) + count_by p xs ≡ with_one b (count_by p xs)
    one true = omega arith
    one false = omega arith

pub count-push : {X : Type 0} (p : X → Bool) (x : X) (xs : List X) → count_by p (xs ++ x ∷ []) ≡ with_one (p x) (count_by p xs)
count-push p x xs = sum_by-append (λ y. cond (p y) 1 0) xs (x ∷ []) ∙ one (p x)
  where
    one : (b : Bool) → count_by p xs + (0 + cond b 1 0) ≡ with_one b (count_by p xs)
    one true = omega arith
    one false = omega arith

-- tests that agree count alike
pub count-same : {X : Type 0} (p q : X → Bool) (xs : List X) → ((x : X) → p x ≡ q x) → count_by p xs ≡ count_by q xs
count-same p q [] same = refl
count-same p q (x ∷ xs) same =
    count-cons p x xs ∙ (ap (λ (b : Bool). with_one b (count_by p xs)) (same x) ∙ (ap (with_one (q x)) (count-same p q xs same) ∙ sym (count-cons q x xs)))

-- tests that agree on each of these
pub count-each : {X : Type 0} (p q : X → Bool) (xs : List X) → AllByRecursion (λ x. p x ≡ q x) xs → count_by p xs ≡ count_by q xs
count-each p q [] same = refl
count-each p q (x ∷ xs) same =
    count-cons p x xs ∙ (ap (λ (b : Bool). with_one b (count_by p xs)) same.0 ∙ (ap (with_one (q x)) (count-each p q xs same.1) ∙ sym (count-cons q x xs)))

-- a test that none passes counts none
pub count-none : {X : Type 0} (p : X → Bool) (xs : List X) → ((x : X) → p x ≡ false) → count_by p xs ≡ 0
count-none p [] none = refl
count-none p (x ∷ xs) none = count-cons p x xs ∙ (ap (λ (b : Bool). with_one b (count_by p xs)) (none x) ∙ count-none p xs none)

pub with_one-add : (b : Bool) (m n : ℕ) → with_one b m + n ≡ with_one b (m + n)
with_one-add true m n = omega arith
with_one-add false m n = refl

pub add-with_one : (b : Bool) (m n : ℕ) → m + with_one b n ≡ with_one b (m + n)
add-with_one true m n = omega arith
add-with_one false m n = refl

pub and-true : (b : Bool) → b && true ≡ b
and-true true = refl
and-true false = refl

pub and-false : (b : Bool) → b && false ≡ false
and-false true = refl
and-false false = refl

-- ---- which have ended

abbrev ended_ids : List End → List Id
ended_ids es = map (λ e. e.task.id) es

-- no end has this id
abbrev pub is_out : List End → Id → Bool
is_out es id = is_none (find (is_of_id id) (map record_of es))

out_more : (e : End) (es : List End) (id : Id) → same_id e.task.id id ≡ false → is_out (e ∷ es) id ≡ is_out es id
out_more e es id apart = rw apart refl

in_first : (e : End) (es : List End) (id : Id) → same_id e.task.id id ≡ true → is_out (e ∷ es) id ≡ false
in_first e es id same = rw same refl

-- an id that appears nowhere isn't found
out_at : (e : End) (es : List End) (id : Id) (b : Bool) → same_id id e.task.id ≡ b → times id (ended_ids (e ∷ es)) ≡ 0 → (times id (ended_ids es) ≡ 0 → is_out es id ≡ true) → is_out (e ∷ es) id ≡ true
out_at e es id true same none rest = absurd (let h : 1 + times id (ended_ids es) ≡ 0 = rw same at none in omega (arith, h))
out_at e es id false apart none rest =
    let h : 0 + times id (ended_ids es) ≡ 0 = rw apart at none in
    out_more e es id (turned id e.task.id apart) ∙ rest (omega (arith, h))

out_of : (es : List End) (id : Id) → times id (ended_ids es) ≡ 0 → is_out es id ≡ true
out_of [] id none = refl
out_of (e ∷ es) id none = out_at e es id (same_id id e.task.id) refl none (out_of es id)

-- the first of ends whose ids appear once isn't among the others
first_out : (e : End) (es : List End) → times e.task.id (ended_ids (e ∷ es)) ≤ 1 → is_out es e.task.id ≡ true
first_out e es once =
    let h : 1 + times e.task.id (ended_ids es) ≤ 1 = rw (same_id_refl e.task.id) at once in
    out_of es e.task.id (omega (arith, h))

-- ---- one more end

-- of activations apart from an end the same are out
count_apart : (p : Activation → Bool) (e : End) (es : List End) (xs : List Activation) → IsApart e.task.id xs
    → count_by (λ a. p a && is_out es a.id) xs ≡ count_by (λ a. p a && is_out (e ∷ es) a.id) xs
count_apart p e es [] apart = refl
count_apart p e es (a ∷ xs) apart =
    let same : p a && is_out es a.id ≡ p a && is_out (e ∷ es) a.id = ap (λ (b : Bool). p a && b) (sym (out_more e es a.id apart.0.0)) in
    count-cons _ a xs ∙ (ap (λ (b : Bool). with_one b (count_by (λ a. p a && is_out es a.id) xs)) same
    ∙ (ap (with_one (p a && is_out (e ∷ es) a.id)) (count_apart p e es xs apart.1) ∙ sym (count-cons (λ a. p a && is_out (e ∷ es) a.id) a xs)))

-- one of these has ended that had not
count_here : (p : Activation → Bool) (e : End) (es : List End) (a : Activation) (xs : List Activation) → e.task ≡ a → IsApart a.id xs → is_out es e.task.id ≡ true
    → count_by (λ a. p a && is_out es a.id) (a ∷ xs) ≡ with_one (p e.task) (count_by (λ a. p a && is_out (e ∷ es) a.id) (a ∷ xs))
count_here p e es a xs is apart out =
    let there : IsApart e.task.id xs = subst (λ (x : Activation). IsApart x.id xs) (sym is) apart in
    let was : p a && is_out es a.id ≡ p e.task = subst (λ (x : Activation). p x && is_out es x.id ≡ p e.task) is (ap (λ (b : Bool). p e.task && b) out ∙ and-true (p e.task)) in
    let now : p a && is_out (e ∷ es) a.id ≡ false = subst (λ (x : Activation). p x && is_out (e ∷ es) x.id ≡ false) is (ap (λ (b : Bool). p e.task && b) (in_first e es e.task.id (same_id_refl e.task.id)) ∙ and-false (p e.task)) in
    count-cons (λ a. p a && is_out es a.id) a xs ∙ (ap (λ (b : Bool). with_one b (count_by (λ a. p a && is_out es a.id) xs)) was
    ∙ ap (with_one (p e.task)) (count_apart p e es xs there ∙ sym (count-cons (λ a. p a && is_out (e ∷ es) a.id) a xs ∙ ap (λ (b : Bool). with_one b (count_by (λ a. p a && is_out (e ∷ es) a.id) xs)) now)))

with_one-swap : (b c : Bool) (n : ℕ) → with_one b (with_one c n) ≡ with_one c (with_one b n)
with_one-swap true true n = refl
with_one-swap true false n = refl
with_one-swap false true n = refl
with_one-swap false false n = refl

count_one : (p : Activation → Bool) (e : End) (es : List End) (xs : List Activation) → AreApart xs → IsAmong e.task xs → is_out es e.task.id ≡ true
    → count_by (λ a. p a && is_out es a.id) xs ≡ with_one (p e.task) (count_by (λ a. p a && is_out (e ∷ es) a.id) xs)
count_one p e es [] apart among out = absurd among
count_one p e es (a ∷ xs) apart (inl is) out = count_here p e es a xs is apart.0 out
count_one p e es (a ∷ xs) apart (inr rest) out =
    let other : same_id e.task.id a.id ≡ false = (all_among (λ x. (same_id a.id x.id ≡ false) × (same_id x.id a.id ≡ false)) e.task xs rest apart.0).1 in
    let same : p a && is_out es a.id ≡ p a && is_out (e ∷ es) a.id = ap (λ (b : Bool). p a && b) (sym (out_more e es a.id other)) in
    count-cons (λ a. p a && is_out es a.id) a xs ∙ (ap (λ (b : Bool). with_one b (count_by (λ a. p a && is_out es a.id) xs)) same
    ∙ (ap (with_one (p a && is_out (e ∷ es) a.id)) (count_one p e es xs apart.1 rest out)
    ∙ (with_one-swap (p a && is_out (e ∷ es) a.id) (p e.task) _ ∙ ap (with_one (p e.task)) (sym (count-cons (λ a. p a && is_out (e ∷ es) a.id) a xs)))))

-- ---- all ends

fewer : (e : End) (es : List End) → ((id : Id) → times id (ended_ids (e ∷ es)) ≤ 1) → (id : Id) → times id (ended_ids es) ≤ 1
fewer e es once id = let h = once id in omega (arith, h)

pub count_all : (p : Activation → Bool) (es : List End) (xs : List Activation) → AreApart xs → AllByRecursion (λ e. IsAmong e.task xs) es → ((id : Id) → times id (ended_ids es) ≤ 1)
    → count_by p xs ≡ count_by (λ a. p a && is_out es a.id) xs + count_by (λ e. p e.task) es
count_all p [] xs apart among once = count-same p (λ a. p a && true) xs (λ a. sym (and-true (p a))) ∙ omega arith
count_all p (e ∷ es) xs apart among once =
    count_all p es xs apart among.1 (fewer e es once)
    ∙ (ap (λ (n : ℕ). n + count_by (λ e. p e.task) es) (count_one p e es xs apart among.0 (first_out e es (once e.task.id)))
    ∙ (with_one-add (p e.task) _ _ ∙ (sym (add-with_one (p e.task) _ _) ∙ ap (λ (n : ℕ). count_by (λ a. p a && is_out (e ∷ es) a.id) xs + n) (sym (count-cons (λ e. p e.task) e es)))))

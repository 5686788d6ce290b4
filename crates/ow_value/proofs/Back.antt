-- What was written reads back.
use Rattle.std.proofs.Common.{◌≡◌, ℕ, suc, ◌≤◌, max, ℤ, pos, negsuc, List, [], ◌∷◌, Bool, true, false, Some, option_map, option_and_then, Ok, Less, decimal, IsUtf8, refl, sym, ap, ap₂, ◌∙◌, append-nil, arith}
use Rattle.std.specs.List.{AllByRecursion}
use Rattle.std.specs.List.Sorted.{IsStrictlySortedBy}
use Rattle.std.specs.Map.{keys_of}
use Rattle.std.proofs.lemmas.Fmt.{IsAscii-decimal}
use Rattle.std.proofs.lemmas.Str.{IsUtf8-append, IsUtf8-nil, IsUtf8-from_ascii}
use Rattle.std.proofs.lemmas.Cmp.{nat_list_cmp_total}
use Rattle.json.specs.Json as doc
use Rattle.json.specs.Lex.{tokens}
use Rattle.json.specs.Tree as tree
use Rattle.json.proofs.Printed.Decimals.{IsNumber-decimal, IsNumber-signed_decimal}
use Rattle.json.proofs.Printed.Utf8.{IsUtf8-are_ascii, IsUtf8-boolean, IsUtf8-quoted}
use Rattle.json.proofs.Printed.Tokens.{tokens-print}
use Rattle.json.proofs.Printed.Trees.{value-json_tokens, ArePrintable-json_tokens}
use Rattle.serde_json.specs.Data as json
use Rattle.serde_json.specs.Find.{as_integer, of_integer}
use Rattle.serde_json.specs.Read.{of_json, of_items, of_members, read, max_depth}
use Rattle.serde_json.specs.Written.{number_text, comma_if, items_text, members_text, compact_text, outline, items_outline, members_outline}
use Rattle.serde_json.proofs.Numbers.{number_of-decimal, number_of-negative}
use Rattle.serde_json.proofs.Texts.{print-outline}
use Rattle.ow_value.specs.Value.{V, null, boolean, whole, text, list, object, Items, no_items, item, Members, no_members, member, text_cmp, AreParams, depth, items_depth, members_depth}
use Rattle.ow_value.specs.Field.{pairs_in}
use Rattle.ow_value.specs.Json.{IsValue, AreValues, AreMembers}
use Rattle.ow_value.specs.Text.{data_of, items_data, members_data, compact, value_tokens}
use Rattle.ow_value.specs.Read.{whole_of, whole_items, whole_members, reading}
use Rattle.ow_value.specs.Whole.{IsWhole}
use Rattle.ow_value.proofs.KeySearch.{turned}
use Rattle.ow_value.proofs.Refused.{reads_value}

-- ---- members that are put in order

abbrev app : json.Members → json.Members → json.Members
app json.no_members ms = ms
app (json.member k d found) ms = json.member k d (app found ms)

app_member : (found : json.Members) (k : List ℕ) (d : json.Data) (ms : json.Members) → app (app found (json.member k d json.no_members)) ms ≡ app found (json.member k d ms)
app_member json.no_members k d ms = refl
app_member (json.member j e found) k d ms = ap (json.member j e) (app_member found k d ms)

app_none : (found : json.Members) → app found json.no_members ≡ found
app_none json.no_members = refl
app_none (json.member j e found) = ap (json.member j e) (app_none found)

-- each name is below k
abbrev AreBelow : json.Members → List ℕ → Type 0
AreBelow json.no_members k = Unit {0}
AreBelow (json.member j d ms) k = (text_cmp j k ≡ Less) × AreBelow ms k

below_next : (found : json.Members) (k l : List ℕ) (d : json.Data) → AreBelow found k → text_cmp k l ≡ Less → AreBelow (app found (json.member k d json.no_members)) l
below_next json.no_members k l d h lt = (lt, tt)
below_next (json.member j e found) k l d h lt = (nat_list_cmp_total.trans j k l h.0 lt, below_next found k l d h.1 lt)

put_last : (found : json.Members) (k : List ℕ) (d : json.Data) → AreBelow found k → json.put k d found ≡ app found (json.member k d json.no_members)
put_last json.no_members k d h = refl
put_last (json.member j e found) k d h = rw (turned j k Less h.0) (ap (json.member j e) (put_last found k d h.1))

-- the first of these names is above all names that were found
abbrev Follows : json.Members → Members → Type 0
Follows found no_members = Unit {0}
Follows found (member k v ps) = AreBelow found k

follows_next : (found : json.Members) (k : List ℕ) (d : json.Data) (ps : Members) → AreBelow found k → AllByRecursion (λ y. text_cmp k y ≡ Less) (keys_of (pairs_in ps)) → Follows (app found (json.member k d json.no_members)) ps
follows_next found k d no_members h above = tt
follows_next found k d (member l v ps) h above = below_next found k l d h above.0

-- ---- the value that its outline is

mutual
  unfolding IsStrictlySortedBy

  of_json-outline : (v : V) → IsValue v → of_json (outline (data_of v)) ≡ Some (data_of v)
  of_json-outline null h = refl
  of_json-outline (boolean b) h = refl
  of_json-outline (whole (pos n)) h = ap (option_map json.number) (number_of-decimal n h)
  of_json-outline (whole (negsuc n)) h = ap (option_map json.number) (number_of-negative n h)
  of_json-outline (text s) h = refl
  of_json-outline (list vs) h = ap (option_map json.array) (of_items-outline vs h)
  of_json-outline (object ps) h = ap (option_map json.object) (of_members-outline ps json.no_members h.0 h.1 (first ps))

  of_items-outline : (vs : Items) → AreValues vs → of_items (items_outline (items_data vs)) ≡ Some (items_data vs)
  of_items-outline no_items h = refl
  of_items-outline (item v vs) h =
      ap₂ (λ o p. option_and_then (λ d. option_map (json.item d) p) o) (of_json-outline v h.0) (of_items-outline vs h.1)

  of_members-outline : (ps : Members) (found : json.Members) → AreParams (pairs_in ps) → AreMembers ps → Follows found ps → of_members (members_outline (members_data ps)) found ≡ Some (app found (members_data ps))
  of_members-outline no_members found s h f = ap Some (sym (app_none found))
  of_members-outline (member k v ps) found s h f =
      let d = data_of v in
      ap (option_and_then (λ e. of_members (members_outline (members_data ps)) (json.put k e found))) (of_json-outline v h.1)
      ∙ ap (of_members (members_outline (members_data ps))) (put_last found k d f)
      ∙ of_members-outline ps (app found (json.member k d json.no_members)) s.1 h.2 (follows_next found k d ps f s.0)
      ∙ ap Some (app_member found k d (members_data ps))

  first : (ps : Members) → Follows json.no_members ps
  first no_members = tt
  first (member k v ps) = tt

-- ---- its tokens

mutual
  numbers : (v : V) → IsValue v → tree.HasNumbers (outline (data_of v))
  numbers null h = tt
  numbers (boolean b) h = tt
  numbers (whole (pos n)) h = IsNumber-decimal n h
  numbers (whole (negsuc n)) h = IsNumber-signed_decimal (negsuc n) (omega arith)
  numbers (text s) h = tt
  numbers (list vs) h = items_numbers vs h
  numbers (object ps) h = members_numbers ps h.1

  items_numbers : (vs : Items) → AreValues vs → tree.ItemsHaveNumbers (items_outline (items_data vs))
  items_numbers no_items h = tt
  items_numbers (item v vs) h = (numbers v h.0, items_numbers vs h.1)

  members_numbers : (ps : Members) → AreMembers ps → tree.MembersHaveNumbers (members_outline (members_data ps))
  members_numbers no_members h = tt
  members_numbers (member k v ps) h = (numbers v h.1, members_numbers ps h.2)

mutual
  same_depth : (v : V) → tree.depth (outline (data_of v)) ≡ depth v
  same_depth null = refl
  same_depth (boolean b) = refl
  same_depth (whole z) = refl
  same_depth (text s) = refl
  same_depth (list vs) = ap suc (items_same_depth vs)
  same_depth (object ps) = ap suc (members_same_depth ps)

  items_same_depth : (vs : Items) → tree.items_depth (items_outline (items_data vs)) ≡ items_depth vs
  items_same_depth no_items = refl
  items_same_depth (item v vs) = ap₂ max (same_depth v) (items_same_depth vs)

  members_same_depth : (ps : Members) → tree.members_depth (members_outline (members_data ps)) ≡ members_depth ps
  members_same_depth no_members = refl
  members_same_depth (member k v ps) = ap₂ max (same_depth v) (members_same_depth ps)

tokens-compact : (v : V) → IsValue v → tokens (compact v) ≡ value_tokens v
tokens-compact v h = ap tokens (sym (print-outline (data_of v))) ∙ tokens-print (value_tokens v) (ArePrintable-json_tokens (outline (data_of v)) (numbers v h))

read-compact : (v : V) → IsValue v → depth v ≤ max_depth → read (compact v) ≡ Some (data_of v)
read-compact v h shallow =
    let j = outline (data_of v) in
    let all : doc.value max_depth (tokens (compact v)) ≡ Some (j, []) =
    ap (doc.value max_depth) (tokens-compact v h ∙ sym (append-nil (value_tokens v))) ∙ value-json_tokens j max_depth [] (omega (arith, same_depth v)) in
    ap (λ o. option_and_then of_json (option_and_then (λ p. doc.if_last p.0 p.1) o)) all ∙ of_json-outline v h

-- ---- the text is UTF-8

comma_utf8 : (later : Bool) → IsUtf8 (comma_if later)
comma_utf8 true = IsUtf8-are_ascii _ refl
comma_utf8 false = IsUtf8-nil

number_utf8 : (z : ℤ) → IsWhole z → IsUtf8 (number_text (of_integer z))
number_utf8 (pos n) h = IsUtf8-from_ascii _ (IsAscii-decimal n h)
number_utf8 (negsuc n) h = IsUtf8-append (45 ∷ []) (decimal (suc n)) (IsUtf8-are_ascii _ refl) (IsUtf8-from_ascii _ (IsAscii-decimal (suc n) (omega arith)))

mutual
  pub text_utf8 : (v : V) → IsValue v → IsUtf8 (compact_text (data_of v))
  text_utf8 null h = IsUtf8-are_ascii _ refl
  text_utf8 (boolean b) h = IsUtf8-boolean b
  text_utf8 (whole z) h = number_utf8 z h
  text_utf8 (text s) h = IsUtf8-quoted s h
  text_utf8 (list vs) h = IsUtf8-append (91 ∷ []) _ (IsUtf8-are_ascii _ refl) (items_utf8 false vs h)
  text_utf8 (object ps) h = IsUtf8-append (123 ∷ []) _ (IsUtf8-are_ascii _ refl) (members_utf8 false ps h.1)

  items_utf8 : (later : Bool) (vs : Items) → AreValues vs → IsUtf8 (items_text later (items_data vs))
  items_utf8 later no_items h = IsUtf8-are_ascii _ refl
  items_utf8 later (item v vs) h = IsUtf8-append _ _ (comma_utf8 later) (IsUtf8-append _ _ (text_utf8 v h.0) (items_utf8 true vs h.1))

  members_utf8 : (later : Bool) (ps : Members) → AreMembers ps → IsUtf8 (members_text later (members_data ps))
  members_utf8 later no_members h = IsUtf8-are_ascii _ refl
  members_utf8 later (member k v ps) h =
      IsUtf8-append _ _ (comma_utf8 later)
      (IsUtf8-append _ _ (IsUtf8-quoted k h.0) (IsUtf8-append (58 ∷ []) _ (IsUtf8-are_ascii _ refl) (IsUtf8-append _ _ (text_utf8 v h.1) (members_utf8 true ps h.2))))

-- ---- and reads as the value

whole_back : (z : ℤ) → option_map whole (as_integer (of_integer z)) ≡ Some (whole z)
whole_back (pos n) = refl
whole_back (negsuc n) = refl

mutual
  pub whole_of-data_of : (v : V) → whole_of (data_of v) ≡ Some v
  whole_of-data_of null = refl
  whole_of-data_of (boolean b) = refl
  whole_of-data_of (whole z) = whole_back z
  whole_of-data_of (text s) = refl
  whole_of-data_of (list vs) = ap (option_map list) (whole_items-data vs)
  whole_of-data_of (object ps) = ap (option_map object) (whole_members-data ps)

  whole_items-data : (vs : Items) → whole_items (items_data vs) ≡ Some vs
  whole_items-data no_items = refl
  whole_items-data (item v vs) = ap₂ (λ o p. option_and_then (λ w. option_map (item w) p) o) (whole_of-data_of v) (whole_items-data vs)

  whole_members-data : (ps : Members) → whole_members (members_data ps) ≡ Some ps
  whole_members-data no_members = refl
  whole_members-data (member k v ps) = ap₂ (λ o p. option_and_then (λ w. option_map (member k w) p) o) (whole_of-data_of v) (whole_members-data ps)

pub reading-compact : (v : V) (limit : ℕ) → IsValue v → depth v ≤ limit → limit ≤ max_depth → reading limit (compact v) ≡ Ok v
reading-compact v limit h shallow most =
    let low : depth v ≤ max_depth = omega arith in
    reads_value limit (compact v) (data_of v) v (text_utf8 v h) (read-compact v h low) (whole_of-data_of v) shallow

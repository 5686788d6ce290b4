-- Words that are in the command set, and words that aren't.
use Rattle.std.proofs.Common.{◌≡◌, ◌==◌, ◌&&◌, refl, ap, sym, ℕ, List, [], ◌∷◌, Bool, true, false, Some, None, Option, not, cond, is_some, nat_le, option_map, subst, true≢false}
use Rattle.std.proofs.lemmas.Bool.{eqb-true}
use Rattle.std.specs.Prelude.{option_and_then}
use Rattle.ow_value.specs.Decimal.{decimal_of, if_within, number_within}
use Rattle.ow_command_line.specs.Laws.{BoundsWorkers, RefusesAgain, RefusesDrills, RefusesServices, RefusesWords, TakesCounts, TakesDays, TakesDeployments, TakesDrills, TakesNumbers, TakesServices, TakesWords, TakesWordsOfDays, as_deployment, service}
use Rattle.clap.specs.Lexer.{long_of}
use Rattle.ow_command_line.specs.Words.{Values, connections_of, day_options, day_with, deploy_with, each_once, given_from, is_value, option_words, plain_words, port_of, serve_by, values_of, workers_of}

pub takes_days : (f g : List ℕ) → is_value f ≡ true → is_value g ≡ true → TakesDays f g
unfolding each_once given_from
takes_days f g e d = record {
  alone = refl;
  table_apart = simp e refl;
  table_joined = simp e refl;
  store_apart = simp d refl;
  store_joined = simp d refl;
  both_apart = simp (e, d) refl;
  both_joined = simp (e, d) refl;
  apart_joined = simp (e, d) refl;
  joined_apart = simp (e, d) refl;
  turned_apart = simp (e, d) refl;
  turned_joined = simp (e, d) refl;
  turned_apart_joined = simp (e, d) refl;
  turned_joined_apart = simp (e, d) refl;
}

pub refuses_again : (f g : List ℕ) → is_value f ≡ true → is_value g ≡ true → RefusesAgain f g
unfolding each_once given_from
refuses_again f g e d = record {
  in_two_words = simp (e, d) refl;
  in_one_word = simp (e, d) refl;
  in_both_forms = simp (e, d) refl;
}

-- ---- services

-- a number begins with no `-`
dash_is_none : (cs : List ℕ) (n : ℕ) → decimal_of (45 ∷ cs) ≡ Some n → ⊥
dash_is_none [] n e = true≢false (sym (ap is_some e))
dash_is_none (c ∷ cs) n e = true≢false (sym (ap is_some e))

decimal_is_value : (text : List ℕ) (n : ℕ) → decimal_of text ≡ Some n → is_value text ≡ true
decimal_is_value [] n e = absurd (true≢false (sym (ap is_some e)))
decimal_is_value (c ∷ cs) n e = go (c == 45) refl
  where
    go : (b : Bool) → (c == 45) ≡ b → not b ≡ true
    go true is = absurd (dash_is_none cs n (subst (λ x. decimal_of (x ∷ cs) ≡ Some n) (eqb-true c 45 is) e))
    go false is = refl

within_is_value : (least most : ℕ) (text : List ℕ) (n : ℕ) → number_within least most text ≡ Some n → is_value text ≡ true
within_is_value least most text n e = go (decimal_of text) refl e
  where
    go : (o : Option ℕ) → decimal_of text ≡ o → option_and_then (if_within least most) o ≡ Some n → is_value text ≡ true
    go None is e = absurd (true≢false (sym (ap is_some e)))
    go (Some m) is e = decimal_is_value text m is

count_is_value : (text : List ℕ) (n : ℕ) → connections_of (Some text) ≡ Some (Some n) → is_value text ≡ true
count_is_value text n e = go (decimal_of text) refl e
  where
    go : (o : Option ℕ) → decimal_of text ≡ o → option_map Some o ≡ Some (Some n) → is_value text ≡ true
    go None is e = absurd (true≢false (sym (ap is_some e)))
    go (Some m) is e = decimal_is_value text m is

pub takes_services : (p w n f g : List ℕ) (at many most : ℕ) → port_of (Some p) ≡ Some at → workers_of (Some w) ≡ Some many → connections_of (Some n) ≡ Some (Some most)
    → is_value f ≡ true → is_value g ≡ true → TakesServices p w n f g at many most
unfolding each_once given_from
takes_services p w n f g at many most p_is w_is n_is e d =
    let p_value = within_is_value 0 65535 p at p_is in
    let w_value = within_is_value 1 64 w many w_is in
    let n_value = count_is_value n most n_is in
    record {
      port_apart = simp (p_value, p_is) refl;
      port_joined = simp (p_value, p_is) refl;
      workers_behind = simp (p_value, p_is, w_value, w_is) refl;
      workers_before = simp (p_value, p_is, w_value, w_is) refl;
      connections_behind = simp (p_value, p_is, n_value, n_is) refl;
      connections_before = simp (p_value, p_is, n_value, n_is) refl;
      files = simp (p_value, p_is, e, d) refl;
      all_apart = simp (p_value, p_is, w_value, w_is, n_value, n_is, e, d) refl;
      all_joined = simp (p_value, p_is, w_value, w_is, n_value, n_is, e, d) refl;
    }

pub bounds_workers : (p w : List ℕ) (at n : ℕ) → port_of (Some p) ≡ Some at → decimal_of w ≡ Some n → BoundsWorkers p w at n
unfolding each_once given_from
bounds_workers p w at n p_is w_is =
    let p_value = within_is_value 0 65535 p at p_is in
    let w_value = decimal_is_value w n w_is in
    simp (p_value, p_is, w_value, w_is) (go (nat_le 1 n && nat_le n 64))
  where
    go : (b : Bool) → serve_by (Some at) (cond b (Some n) None) (Some None) None None ≡ cond b (service at n None None None) None
    go true = refl
    go false = refl

-- ---- drills

-- what begins with no `-` names no option
no_option : (text : List ℕ) → is_value text ≡ true → long_of text ≡ None
no_option [] e = refl
no_option (c ∷ cs) e = go (c == 45) refl e
  where
    go : (b : Bool) → (c == 45) ≡ b → not b ≡ true → long_of (c ∷ cs) ≡ None
    go true is e = absurd (true≢false (sym e))
    go false is e = rw is refl

pub takes_drills : (n s f g : List ℕ) (k x : ℕ) → number_within 0 1000000 n ≡ Some k → decimal_of s ≡ Some x → is_value f ≡ true → is_value g ≡ true → TakesDrills n s f g k x
unfolding each_once given_from option_words plain_words
takes_drills n s f g k x n_is s_is e d =
    let n_plain = no_option n (within_is_value 0 1000000 n k n_is) in
    let s_plain = no_option s (decimal_is_value s x s_is) in
    let s_value = decimal_is_value s x s_is in
    record {
      alone = simp (n_plain, s_plain, n_is, s_is) refl;
      table_before = simp (n_plain, s_plain, n_is, s_is, e) refl;
      table_between = simp (n_plain, s_plain, n_is, s_is, e) refl;
      table_after = simp (n_plain, s_plain, n_is, s_is, e) refl;
      joined_before = simp (n_plain, s_plain, n_is, s_is, d) refl;
      joined_between = simp (n_plain, s_plain, n_is, s_is, d) refl;
      both_after = simp (n_plain, s_plain, n_is, s_is, e, d) refl;
      both_around = simp (n_plain, s_plain, n_is, s_is, e, d) refl;
      no_seed = simp n_plain refl;
      three = simp (n_plain, s_plain) refl;
      number_as_file = simp n_plain refl;
      table_twice = simp (n_plain, s_plain, n_is, s_is, e) refl;
      open_table = simp (n_plain, s_plain) refl;
      port = simp (n_plain, s_plain) refl;
    }

pub takes_counts : TakesCounts
unfolding each_once given_from option_words plain_words
takes_counts = record { least = refl; greatest = refl }

pub refuses_drills : RefusesDrills
unfolding each_once given_from option_words plain_words
refuses_drills = record {
  numberless = refl;
  past_calls = refl;
  past_seeds = refl;
  zero_in_calls = refl;
  zero_in_seed = refl;
  signed = refl;
  negative = refl;
  empty = refl;
  dashes = refl;
  unknown = refl;
}

-- ---- deployments

pub takes_deployments : (f g : List ℕ) → is_value f ≡ true → is_value g ≡ true → TakesDeployments f g
unfolding each_once given_from
takes_deployments f g e d = record {
  alone = refl;
  table_apart = simp e refl;
  store_joined = simp d refl;
  both_apart = simp (e, d) refl;
  turned_joined = simp (e, d) refl;
  table_twice = simp (e, d) refl;
  file = let plain = no_option f e in simp plain refl;
}

-- the same values make a day and a deployment
same_values : (o : Option Values) → option_map deploy_with o ≡ option_map as_deployment (option_map day_with o)
same_values None = refl
same_values (Some value) = refl

pub words_of_days : (words : List (List ℕ)) → TakesWordsOfDays words
words_of_days words = same_values (values_of day_options words)

-- ---- other words

pub takes_words : TakesWords
takes_words = record { help = refl; version = refl }

pub refuses_words : RefusesWords
unfolding each_once given_from
refuses_words = record {
  none = refl;
  empty = refl;
  unknown = refl;
  help_with_more = refl;
  no_value = refl;
  empty_value = refl;
  empty_word = refl;
  dash_value = refl;
  dash_joined = refl;
  dashes = refl;
  dashes_behind = refl;
  twice = refl;
  help_of_day = refl;
  short = refl;
  front = refl;
}

pub takes_numbers : TakesNumbers
unfolding each_once given_from
takes_numbers = record { least = refl; greatest = refl }

pub refuses_services : RefusesServices
unfolding each_once given_from
refuses_services = record {
  alone = refl;
  portless = refl;
  no_worker = refl;
  more_workers = refl;
  past_ports = refl;
  past_connections = refl;
  zero_in_front = refl;
  signed = refl;
  no_number = refl;
  empty_number = refl;
  port_twice = refl;
  port_of_day = refl;
  unknown = refl;
}

-- What a hall replies to a read, and how it is left.
use Rattle.std.proofs.Common.{◌≡◌, ◌++◌, ◌∙◌, ℕ, List, [], Bool, true, false, Some, Result, Ok, Err, IfOk, refl, sym, ap, subst}
use Rattle.std.specs.List.{flat_map}
use Rattle.ow_traits.specs.Telling.{Telling}
use Rattle.ow_traits.specs.declared.change_list.Change.{Change as StoreChange}
use Rattle.ow_value.specs.declared.memory.NoMemory.{NoMemory}
use Rattle.ow_floor.specs.Trace.{Trace}
use Rattle.ow_commits.specs.Commits.{row_changes}
use Rattle.ow_tables.specs.Contents.{Change}
use Rattle.ow_http.specs.Request.{parts_of}
use Rattle.ow_http.specs.declared.request.Request.{Request}
use Rattle.ow_reads.specs.View.{View}
use Rattle.ow_reads.specs.declared.acts.Reading.{Reading}
use Rattle.ow_tenant.specs.Table.{Table}
use Rattle.ow_decide.specs.Asking.{IsOfView, ReadsChangeNothing, reply_in, request_done}
use Rattle.ow_decide.specs.Sight.{Sight}
use Rattle.ow_decide.specs.Decision.{Decision, OtherChange, Same, commits, items_changes, with_others}
use Rattle.ow_decide.specs.declared.events.Event.TheVariants as events
use Rattle.ow_decide.specs.declared.events.Told.{Told}
use Rattle.ow_decide.specs.declared.replies.Reply.{Reply}
use Rattle.ow_decide.proofs.ArchiveLaws.{asked_same}
use Rattle.ow_hall.specs.Comes.{Answers, Fails, HallView, Holds, Replies, Stays, Wants, at_hall, decided}
use Rattle.ow_hall.specs.History.{counted, posting, seen, sight}
use Rattle.ow_hall.specs.Ledger.{Ledger, posted, posted_as}
use Rattle.ow_hall.specs.declared.entry.Entry.{Entry}
use Rattle.ow_hall.specs.declared.posting.Posting.{Posting}
use Rattle.ow_hall.specs.declared.posting.Posting.TheVariants.{Booked, Quiet, Denied, Unbooked}
use Rattle.ow_isolation.specs.Reads.{IsEntryOfRead, IsLeft, IsRead, LeavesHalls, RepliesOfView, finds_full, read_reply, read_told}
use Rattle.ow_isolation.proofs.ReadLaws.{answers_of_view, leaves_all, views_by}

none_committed : (d : Decision) → d.items ≡ [] → d.changes ≡ [] → d.others ≡ Same → commits d ≡ []
none_committed d items changes same =
    ap (λ (change : OtherChange). with_others change (flat_map row_changes d.changes ++ items_changes d.items)) same
    ∙ (ap (λ (cs : List Change). flat_map row_changes cs ++ items_changes d.items) changes ∙ ap (λ (is : Trace). items_changes is) items)

-- nothing is committed at a read
read_commits : {P : Type 0} → ReadsChangeNothing → (old : HallView P) (at : ℕ) (r : Request) (reading : Reading) → IsRead r reading → commits (decided old at (events.Asked r)) ≡ []
read_commits quiet old at r reading reads =
    let leaves = quiet (sight old.tenants (seen old.tenants old.ledger.entries) (counted old.ledger.entries) (at_hall old at)) reading (parts_of r) reads in
    none_committed (decided old at (events.Asked r)) leaves.0 leaves.1
    (asked_same (request_done (sight old.tenants (seen old.tenants old.ledger.entries) (counted old.ledger.entries) (at_hall old at)) (parts_of r)))

told_reply : (full : Bool) (W : View) (reading : Reading) (r : Request) → reply_in (read_told full W reading r) ≡ Some (read_reply full W reading r)
told_reply true W reading r = refl
told_reply false W reading r = refl

replied_so : (t : Told) (full : Bool) (W : View) (reading : Reading) (r : Request) (result : Result Reply NoMemory) → t ≡ read_told full W reading r → Replies result (Answers t)
    → IfOk result (λ reply. reply ≡ read_reply full W reading r)
replied_so t full W reading r (Err e) is replies = tt
replied_so t full W reading r (Ok reply) is replies =
    let same : Some reply ≡ Some (read_reply full W reading r) = sym replies ∙ (ap reply_in is ∙ told_reply full W reading r) in
    cc

unwanted : (full : Bool) (W : View) (reading : Reading) (r : Request) (result : Result Reply NoMemory) → Replies result Wants → IfOk result (λ reply. reply ≡ read_reply full W reading r)
unwanted full W reading r (Ok reply) replies = absurd replies
unwanted full W reading r (Err e) replies = tt

module _ {P : Type 0} (telling : P → Telling) (viewed : (S : Sight) → IsOfView S) (quiet : ReadsChangeNothing) where
  pub replies_of_view : RepliesOfView telling
  replies_of_view old new at r reading W result (Answers t) reads sees replies comes =
      replied_so t (finds_full old.ledger.entries r) W reading r result (comes.0 ∙ answers_of_view viewed old.tenants old.ledger.entries (at_hall old at) r reading W reads sees) replies
  replies_of_view old new at r reading W result Wants reads sees replies comes = unwanted (finds_full old.ledger.entries r) W reading r result replies
  replies_of_view old new at r reading W result Fails reads sees replies comes = absurd (comes.0 (read_commits quiet old at r reading reads))

  posted_leaves : (t : Table) (L : Ledger) (p : Posting) (e : Entry) (r : Request) (reading : Reading) → IsEntryOfRead e r reading → seen t (posted_as p e L).entries ≡ seen t L.entries
  posted_leaves t L Booked e r reading read = leaves_all quiet t L.entries e r reading read
  posted_leaves t L Quiet e r reading read = refl
  posted_leaves t L Denied e r reading read = refl
  posted_leaves t L Unbooked e r reading read = refl

  left_by : (old new : HallView P) → new.tenants ≡ old.tenants → seen new.tenants new.ledger.entries ≡ seen old.tenants old.ledger.entries → new.store ≡ old.store → IsLeft old new
  left_by old new tenants same store = record {
    views = λ key. views_by new.tenants old.tenants (seen new.tenants new.ledger.entries) (seen old.tenants old.ledger.entries) key tenants same;
    state = same;
    tenants = tenants;
    store = store;
  }

  seen_by : (old new : HallView P) (L : Ledger) → new.tenants ≡ old.tenants → new.ledger ≡ L → seen new.tenants new.ledger.entries ≡ seen old.tenants L.entries
  seen_by old new L tenants ledger = ap (λ (t : Table). seen t new.ledger.entries) tenants ∙ ap (λ (l : Ledger). seen old.tenants l.entries) ledger

  pub leaves_halls : LeavesHalls telling
  leaves_halls old new at r reading (Answers t) reads comes =
      left_by old new comes.2
      (seen_by old new (posted old.ledger (at_hall old at) (events.Asked r) t) comes.2 comes.1
      ∙ posted_leaves old.tenants old.ledger (posting old.ledger.entries t) (record { at = at_hall old at; event = events.Asked r; answer = t }) r reading (refl, reads))
      (subst (λ (cs : List StoreChange). Holds telling cs old.store new.store) (read_commits quiet old at r reading reads) comes.3)
  leaves_halls old new at r reading Wants reads comes =
      left_by old new comes.1 (seen_by old new old.ledger comes.1 comes.0)
      (subst (λ (cs : List StoreChange). Stays telling cs old.store new.store) (read_commits quiet old at r reading reads) comes.2)
  leaves_halls old new at r reading Fails reads comes = absurd (comes.0 (read_commits quiet old at r reading reads))

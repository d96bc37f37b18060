-- What a command does to the store at its path: nothing, what its printer does in the machine, or it makes a ledger.
use Rattle.std.proofs.Common.{◌≡◌, ◌<◌, inl, inr, true, false, ℕ, List, [], ◌∷◌, None, Option, Some, slice_get, refl, sym, ap, subst, ◌∙◌, arith}
use Rattle.std.specs.{Prelude.IfSome, Prelude.IsTrue, Option.option_copied, Ordering.nat_cmp}
use Rattle.std.specs.FinMap as finite
use Rattle.dm_store.specs.Saved.{Saved}
use Rattle.dm_print_ledger.specs.{declared.range.Range.Range, Verdicts.opening}
use Rattle.dm_print_ledger.specs.Ledger.{JobView, LedgerView, TicketView, is_range, ledger_bytes}
use Rattle.dm_assembly_desk.specs.{Documents.Documents, Documents.Pages, Desk.HoldsJointFile, Desk.joint_file}
use Rattle.dm_assembly_desk.specs.declared.limits.TheConstants.{MOST_CAPACITY}
use Rattle.dm_event_history.specs.Relay.{Actor, Relay, stored_of}
use Rattle.relay_command.specs.declared.command.Command.{Command}
use Rattle.relay_command.specs.declared.command.Command.TheVariants.{Words, Draw, Read, Plan, Ticket, Ledger, Print, Give, GiveLast, Take, Left, Audit, Scan, Deliver, DeliverAll, Forget, Export, ExportAll, Import, Held, Copy, World}
use Rattle.relay_printer_commands.specs.Printers.{images_of, ledger_at}
use Rattle.relay_streams.specs.Streams.{AppendsPart}
use Rattle.relay_shared.specs.Files.{DeskFiles}
use Rattle.relay_desk_commands.specs.Desks.{OnDesk}
use Rattle.relay_runs.specs.Runs.{FollowsRun, KeepsLedger}
use Rattle.relay_runs.proofs.{EachGive.give_follows, EachGive.give_last_follows, EachPrint.print_follows}
use Rattle.relay_runs.proofs.{EachTake.take_follows, PrintTold.print_out}
use Rattle.relay_runs.proofs.Ledgers.{give_idle, give_last_idle, is_made, made_same, print_idle, shown_same, take_idle}
use Rattle.relay_desk_runs.specs.Answered.{HasNoDocuments}
use Rattle.relay_desk_runs.proofs.Opened.{at_desk_joint, copy_joint, held_long_joint, held_same, import_joint, on_id_joint}
use Rattle.relay.specs.Program.{Does}
use Rattle.relay_program_runs.specs.Passed.{Made, Passed, made_by, made_where, passed_by}
use Rattle.relay_shared.specs.Command.{FileView}

-- the store is honest, and holds nothing, or what the printer of this number stores
abbrev pub HoldsSo : Relay → Saved → Option ℕ → Type 0
HoldsSo relay saved None = IsTrue saved.is_honest × (saved.content ≡ None)
HoldsSo relay saved (Some number) =
    (actor : Actor LedgerView) × (slice_get relay.printers number ≡ Some actor) × KeepsLedger saved actor

-- it holds no documents: the file of a ledger is no joint file
no_joint : (ledger : LedgerView) (held : Documents) → ledger_bytes ledger ≡ joint_file held → ⊥
unfolding ledger_bytes joint_file
no_joint ledger held is = cc (is)

none_held : (held : Documents) (content : Option (List ℕ)) → content ≡ None → HoldsJointFile content held →
    0 < finite.len held → ⊥
none_held held None none joint some =
    let more : 0 < finite.len {R = nat_cmp} finite.empty = subst (λ (d : Documents). 0 < finite.len d) joint some in
    omega (arith, finite.len-empty nat_cmp Pages)
none_held held (Some bytes) none joint some = cc (none)

ledger_held : (ledger : LedgerView) (held : Documents) (content : Option (List ℕ)) →
    content ≡ Some (ledger_bytes ledger) → HoldsJointFile content held → ⊥
ledger_held ledger held None is joint = cc (is)
ledger_held ledger held (Some bytes) is joint =
    no_joint ledger held (let same : bytes ≡ ledger_bytes ledger = cc (is) in sym same ∙ joint.spelled)

pub no_documents : (relay : Relay) (saved : Saved) (o : Option ℕ) → HoldsSo relay saved o → HasNoDocuments saved
no_documents relay saved None (honest, none) =
    record { honest = honest; none = λ held joint some. none_held held saved.content none joint some }
no_documents relay saved (Some number) (actor, there, keeps) = record {
  honest = keeps.honest;
  none = λ held joint some. ledger_held (stored_of actor) held saved.content keeps.content joint;
}

-- ---- what a command does there

pub data Effect (A : Type 0) (relay : Relay) (o : Option ℕ) (command : Command) (before after : OnDesk) (p : Passed)
    : Type 0 where
  idle : after.files.joint ≡ before.files.joint → p.printed ≡ None → p.given ≡ None →
      Effect A relay o command before after p
  unmade : o ≡ None → IsTrue after.files.joint.is_honest → after.files.joint.content ≡ None → p.printed ≡ None →
      p.given ≡ None → Effect A relay o command before after p
  follows : (number : ℕ) → o ≡ Some number →
      FollowsRun A relay number before.streams.input after.files.joint p.printed p.given →
      Effect A relay o command before after p
  makes : (number : ℕ) (range : Range) → o ≡ None → IsTrue after.files.joint.is_honest → IsTrue (is_range range) →
      after.files.joint.content ≡ Some (ledger_bytes (opening number range)) →
      made_by command before after ≡ record { number = number; range = range } ∷ [] → p.printed ≡ None →
      p.given ≡ None → Effect A relay o command before after p

pub made_here : (a b : Option (List ℕ)) (bytes : List ℕ) (one : Made) → a ≡ None → b ≡ Some bytes →
    made_where a b one ≡ one ∷ []
made_here None None bytes one none some = cc (some)
made_here None (Some other) bytes one none some = refl
made_here (Some other) b bytes one none some = cc (none)

-- a ticket that was taken in left before
abbrev pub Taken : Relay → Option TicketView → Type 0
Taken relay taken = IfSome taken (λ ticket. (it : ℕ) × (slice_get relay.tickets it ≡ Some ticket))

module _ (A : Type 0) (relay : Relay) (inputs : List FileView) (before after : OnDesk) (status : ℕ) where
  abbrev Is : Option ℕ → Command → Passed → Type 0
  Is o command p = Effect A relay o command before after p

  same_joint : after.files ≡ before.files → after.files.joint ≡ before.files.joint
  same_joint same = ap (λ (f : DeskFiles). f.joint) same

  pub effect : (command : Command) (does : Does A command inputs before status after) (o : Option ℕ) →
      HoldsSo relay before.files.joint o → Taken relay (passed_by A command inputs before status after does).taken →
      Is o command (passed_by A command inputs before status after does)
  effect (Ledger file number first last) does None (honest, none) left =
      let range : Range = record { first = first; last = last } in
      let m = is_made number range (ledger_at before.files.joint before.streams)
      (ledger_at after.files.joint after.streams) status honest none does.0 in
      elim (m.content) [
        | inl still ↦ unmade refl m.honest still refl refl
        | inr one ↦ makes number range refl m.honest one.0 one.1
            (made_here before.files.joint.content after.files.joint.content _ _ none one.1) refl refl
      ]
  effect (Ledger file number first last) does (Some own) (actor, there, keeps) left =
      idle (made_same number (record { first = first; last = last }) (ledger_at before.files.joint before.streams)
      (ledger_at after.files.joint after.streams) status actor keeps does.0) refl refl
  effect (Print file number labels scheme) does None (honest, none) left =
      let i = print_idle number (ledger_at before.files.joint before.streams)
      (ledger_at after.files.joint after.streams) status honest none labels scheme does.0.0 in
      idle i.0 i.1 refl
  effect (Print file number labels scheme) does (Some own) (actor, there, keeps) left =
      follows own refl (print_follows A relay own actor labels scheme number (ledger_at before.files.joint before.streams)
      (ledger_at after.files.joint after.streams) status there keeps does.0.0)
  effect (Give file number to first last) does None (honest, none) left =
      let i = give_idle number (ledger_at before.files.joint before.streams)
      (ledger_at after.files.joint after.streams) status honest none to (record { first = first; last = last }) does.0 in
      idle i.0 refl i.1
  effect (Give file number to first last) does (Some own) (actor, there, keeps) left =
      follows own refl (give_follows A relay own actor to (record { first = first; last = last }) number
      (ledger_at before.files.joint before.streams) (ledger_at after.files.joint after.streams) status there keeps does.0)
  effect (GiveLast file number to count) does None (honest, none) left =
      let i = give_last_idle number (ledger_at before.files.joint before.streams)
      (ledger_at after.files.joint after.streams) status honest none to count does.0 in
      idle i.0 refl i.1
  effect (GiveLast file number to count) does (Some own) (actor, there, keeps) left =
      follows own refl (give_last_follows A relay own actor to count number
      (ledger_at before.files.joint before.streams) (ledger_at after.files.joint after.streams) status there keeps does.0)
  effect (Take file number ticket) does None (honest, none) left =
      idle (take_idle number (ledger_at before.files.joint before.streams)
      (ledger_at after.files.joint after.streams) status honest none ticket.now does.0) refl refl
  effect (Take file number ticket) does (Some own) (actor, there, keeps) left =
      follows own refl (take_follows A relay own actor ticket.now number (ledger_at before.files.joint before.streams)
      (ledger_at after.files.joint after.streams) status there keeps does.0 left)
  effect (Left file) does o holds left = idle (shown_same (ledger_at before.files.joint before.streams)
      (ledger_at after.files.joint after.streams) status does.0) refl refl
  effect (Scan file capacity) does o holds left =
      idle (at_desk_joint capacity before status after (no_documents relay before.files.joint o holds) does) refl refl
  effect (Deliver file id) does o holds left = idle (on_id_joint id.now before status after
      (λ n at. at_desk_joint MOST_CAPACITY before status after (no_documents relay before.files.joint o holds) at) does)
      refl refl
  effect (Forget file id) does o holds left = idle (on_id_joint id.now before status after
      (λ n at. at_desk_joint MOST_CAPACITY before status after (no_documents relay before.files.joint o holds) at) does)
      refl refl
  effect (Export file id) does o holds left = idle (on_id_joint id.now before status after
      (λ n at. at_desk_joint MOST_CAPACITY before status after (no_documents relay before.files.joint o holds) at) does)
      refl refl
  effect (Import file capacity) does o holds left = idle
      (import_joint capacity before status after (no_documents relay before.files.joint o holds) does.0) refl refl
  effect (DeliverAll file folder forgets) does o holds left = idle
      (at_desk_joint MOST_CAPACITY before status after (no_documents relay before.files.joint o holds) does) refl refl
  effect (ExportAll file folder) does o holds left = idle
      (at_desk_joint MOST_CAPACITY before status after (no_documents relay before.files.joint o holds) does) refl refl
  effect (Held file id false) does o holds left =
      idle (same_joint (held_same (option_copied id) before status after does)) refl refl
  effect (Held file id true) does o holds left = idle
      (held_long_joint (option_copied id) before status after (no_documents relay before.files.joint o holds) does) refl refl
  effect (Copy file id page side scheme) does o holds left = idle
      (copy_joint (record { id = id; page = page; side = side; scheme = scheme }) before status after
      (no_documents relay before.files.joint o holds) does) refl refl
  effect (Words side scheme) does o holds left = idle (same_joint does.0.1) refl refl
  effect (Draw side scheme plain) does o holds left = idle (same_joint does.0.1) refl refl
  effect Read does o holds left = idle (same_joint does.1) refl refl
  effect (Plan scheme) does o holds left = idle (same_joint does.0.1) refl refl
  effect Audit does o holds left = idle (same_joint does.0.1) refl refl
  effect (Ticket ticket) does o holds left = idle (same_joint does.1) refl refl
  effect World does o holds left = idle (same_joint does.0.1) refl refl

-- ---- what a print let out

module _ (A : Type 0) (inputs : List FileView) (before after : OnDesk) (status : ℕ) where
  pub out_of : (command : Command) (does : Does A command inputs before status after) (job : JobView) →
      (passed_by A command inputs before status after does).printed ≡ Some job →
      AppendsPart before.streams.output.contents after.streams.output.contents (images_of job.labels)
  out_of (Print file number labels scheme) does job is =
      print_out (ledger_at before.files.joint before.streams) (ledger_at after.files.joint after.streams) status does.0.0
      job is
  out_of other does job is = cc (is)

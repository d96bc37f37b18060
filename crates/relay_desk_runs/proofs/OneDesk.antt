-- What one desk holds and gives, as a step of a relay that has just this desk.
use Rattle.std.proofs.Common.{◌≡◌, inl, ℕ, List, [], ◌∷◌, Result, Ok, refl, sym, ap, subst, arith}
use Rattle.std.proofs.lemmas.List.{append-nil}
use Rattle.std.specs.FinMap as finite
use Rattle.dm_assembly_desk.specs.{Desk.Asks, Desk.Becomes, Desk.add_verdict, Desk.forget_verdict, Documents.Documents}
use Rattle.dm_assembly_desk.specs.declared.{adding.AddFault.AddFault, fault.AskFault.AskFault, reply.Imported.Imported}
use Rattle.dm_assembly_desk.specs.declared.fault.ForgetFault.{ForgetFault}
use Rattle.dm_event_history.specs.declared.event.Event.TheVariants as events
use Rattle.dm_event_history.specs.declared.reply.Reply.{Reply, TheVariants.Document}
use Rattle.dm_event_history.specs.declared.stop.Stop.TheVariants as stops
use Rattle.dm_event_history.specs.Relay.{Actor, Desk, Export, Label, Relay, Running, no_goods, with_desk}
use Rattle.dm_event_history.specs.Steps.{DeskGoes, Ending, Saves, ending, forget_reply, pages_reply, verdict_course, Step}
use Rattle.dm_event_history.specs.Headline.{AreOfOneDocument, ArePrinted, HaveLeft, IsClean, IsCleanActor, IsCleanExport, IsTheDocument}
use Rattle.dm_event_history.proofs.{Gives.each_clean_desk_gives, Stays.each_step_keeps_clean}

module _ (labels : List Label) (printed : ArePrinted labels) (capacity : ℕ) (held : Documents) (clean : HaveLeft labels held) where
  abbrev desk_of : Documents → Desk
  desk_of now = record { capacity = capacity; actor = Running now }

  abbrev relay : List Export → Relay
  relay exports = record {
    printers = [];
    desks = desk_of held ∷ [];
    labels = labels;
    tickets = [];
    exports = exports;
    moves = [];
  }

  is_clean : (exports : List Export) → IsClean (relay exports) 0
  is_clean exports desk there =
      let same : desk_of held ≡ desk = cc (there) in
      subst (λ (d : Desk). IsCleanActor labels d.actor) same clean

  -- what it holds after a step that saved this is clean
  holds_next : (exports : List Export) (next : Documents) →
      IsClean (with_desk (relay exports) 0 (desk_of next) no_goods) 0 → HaveLeft labels next
  holds_next exports next c =
      subst (λ (ls : List Label). HaveLeft ls next) (append-nil labels) (c (desk_of next) refl)

  -- the desk goes on with this
  goes : (exports : List Export) (Acts : ℕ → Actor Documents → Ending ℕ Documents → Type 0) (reply : Reply ℕ)
      (next : Documents) → Acts capacity (Running held) (ending reply (Running next) no_goods) →
      DeskGoes (relay exports) 0 Acts reply (with_desk (relay exports) 0 (desk_of next) no_goods)
  goes exports Acts reply next acts = record {
    desk = desk_of held;
    was = refl;
    end = ending reply (Running next) no_goods;
    acts = acts;
    reply_is = refl;
    new_is = refl;
  }

  pub added : (export : Export) → IsCleanExport labels export → (next : Documents) (answer : Result Imported AddFault) →
      add_verdict capacity held export.id export.pages ≡ Becomes next answer → HaveLeft labels next
  added export sent next answer is =
      let reply : Reply ℕ = pages_reply answer in
      let step : Step {A = ℕ} (relay (export ∷ [])) (events.Import 0 0 stops.None) reply
      (with_desk (relay (export ∷ [])) 0 (desk_of next) no_goods) = inl (
        (omega arith, omega arith),
        (
          export,
          refl,
          goes (export ∷ []) _ reply next
              (Saves next no_goods reply, inl (sym (ap (verdict_course pages_reply) is)), refl),
        ),
      ) in
      holds_next (export ∷ []) next (each_step_keeps_clean ℕ (relay (export ∷ []))
      (with_desk (relay (export ∷ [])) 0 (desk_of next) no_goods) (events.Import 0 0 stops.None) reply 0 printed
      (is_clean (export ∷ [])) (λ here other there. subst (IsCleanExport labels) (cc (there)) sent) step)

  pub let_go : (id : ℕ) (next : Documents) (answer : Result (Unit {0}) ForgetFault) →
      forget_verdict held id ≡ Becomes next answer → HaveLeft labels next
  let_go id next answer is =
      let reply : Reply ℕ = forget_reply answer in
      let step : Step {A = ℕ} (relay []) (events.Forget 0 id stops.None) reply
      (with_desk (relay []) 0 (desk_of next) no_goods) = inl (
        omega arith,
        goes [] _ reply next (Saves next no_goods reply, inl (sym (ap (verdict_course forget_reply) is)), refl),
      ) in
      holds_next [] next (each_step_keeps_clean ℕ (relay []) (with_desk (relay []) 0 (desk_of next) no_goods)
      (events.Forget 0 id stops.None) reply 0 printed (is_clean []) tt step)

  pub asked : AreOfOneDocument labels → (id : ℕ) (bytes : List ℕ) →
      (let given : Result (List ℕ) AskFault = Ok bytes in Asks (λ b. b) (finite.get held id) given) →
      IsTheDocument labels id bytes
  asked one id bytes asks =
      each_clean_desk_gives ℕ (relay []) (with_desk (relay []) 0 (desk_of held) no_goods) 0 id bytes printed
      one (is_clean [])
      (inl (omega arith, goes [] _ (Document bytes) held ((Ok bytes, asks, refl, refl), refl)))

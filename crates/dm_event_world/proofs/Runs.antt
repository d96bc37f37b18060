-- Runs of worlds: one event more at their end, and the headline.
use Rattle.std.proofs.Common.{◌≡◌, ◌<◌, ◌≤◌, ℕ, Some, List, [], ◌∷◌, ◌++◌, length, map, slice_get, take, refl, sym, subst}
use Rattle.std.proofs.lemmas.List.{take_all}
use Rattle.dm_finder_frame.specs.Frame.{flipped}
use Rattle.dm_symbol.specs.Correction.{IsNear}
use Rattle.dm_print_ledger.specs.declared.range.Range.{Range}
use Rattle.dm_event_history.specs.declared.{event.Event.Event, event.Event.TheVariants.Scan, reply.Reply.Reply}
use Rattle.dm_event_history.specs.{Headline.IsFairEvent, Relay.Relay, Steps.Moment, Steps.onto, Steps.HasModules}
use Rattle.dm_event_history.proofs.Headline.{each_run_is_true}
use Rattle.dm_event_world.specs.{declared.actor.LeftLabel.LeftLabel, inner.Events.Answers, inner.Events.AnswersAll}
use Rattle.dm_event_world.specs.Shows.{Shows, left_label, GoesOn, GoesOnByAll, HearsAll, StandsFor, AreWithin, IsFairIn, IsLookedAt, WorldView, AreAnswers, IsWatched, MayBeLookedAt, first_of}
use Rattle.dm_event_world.proofs.Mapped.{get_map, get_map_from}
use Rattle.dm_event_world.specs.declared.answers.Answer.{Answer, TheVariants.Given, TheVariants.NotGiven}

-- each event of several goes on, one after another
abbrev pub Goes : {A : Type 0} → WorldView A → List (Event A) → List (Reply A) → WorldView A → Type 0
Goes old [] [] new = new ≡ old
Goes {A} old (event ∷ events) (reply ∷ replies) new =
    (mid : WorldView A) × GoesOn old event reply mid × Goes mid events replies new
Goes old [] (reply ∷ replies) new = ⊥
Goes old (event ∷ events) [] new = ⊥

-- one event more
pub runs_more : {A : Type 0} (old mid new : WorldView A) (events : List (Event A)) (all : List (Reply A))
    (event : Event A) (reply : Reply A) →
    Goes old events all mid → GoesOn mid event reply new → Goes old (events ++ event ∷ []) (all ++ reply ∷ []) new
runs_more {A} old mid new [] [] event reply runs steps =
    (new, subst (λ (w : WorldView A). GoesOn w event reply new) runs steps, refl)
runs_more old mid new (e ∷ events) (r ∷ all) event reply runs steps =
    (runs.0, runs.1, runs_more runs.0 mid new events all event reply runs.2 steps)
runs_more old mid new [] (r ∷ all) event reply runs steps = absurd runs
runs_more old mid new (e ∷ events) [] event reply runs steps = absurd runs

-- all events are those up to the last
pub runs_all : {A : Type 0} (old new : WorldView A) (n : ℕ) (events : List (Event A)) (all : List (Reply A)) →
    length events ≤ n → Goes old (take n events) all new → Goes old events all new
runs_all {A} old new n events all most runs =
    subst (λ (es : List (Event A)). Goes old es all new) (take_all n events most) runs

-- a world that goes on by each event goes on by all
pub all_go : {A : Type 0} (old new : WorldView A) (events : List (Event A)) (replies : List (Reply A)) →
    Goes old events replies new → GoesOnByAll old events replies new
all_go {A} old new [] [] run = λ ranges capacities h s.
    ([], tt, subst (λ (w : WorldView A). StandsFor ranges capacities w h) (sym run) s)
all_go {A} old new (event ∷ events) (reply ∷ replies) run = λ ranges capacities h s.
    let now : Moment A = record { before = s.relay; event = event; reply = reply } in
    let more = all_go run.0 new events replies run.2 ranges capacities (now ∷ h) (run.1 ranges capacities h s) in
    (now ∷ more.0, (refl, refl, more.1), more.2)
all_go old new [] (reply ∷ replies) run = absurd run
all_go old new (event ∷ events) [] run = absurd run

pub answers_more : {A : Type 0} (old mid new : WorldView A) (events : List (Event A)) (all : List (Answer A))
    (event : Event A) (answer : Answer A) →
    AnswersAll old events all mid → Answers mid event answer new →
    AnswersAll old (events ++ event ∷ []) (all ++ answer ∷ []) new
answers_more {A} old mid new [] [] event answer runs steps =
    (new, subst (λ (w : WorldView A). Answers w event answer new) runs steps, refl)
answers_more old mid new (e ∷ events) (r ∷ all) event answer runs steps =
    (runs.0, runs.1, answers_more runs.0 mid new events all event answer runs.2 steps)
answers_more old mid new [] (r ∷ all) event answer runs steps = absurd runs
answers_more old mid new (e ∷ events) [] event answer runs steps = absurd runs

-- the world answers these events, and a listener hears the answers
abbrev pub Told : {A L : Type 0} → (L → Answer A → L → Type 0) → WorldView A → List (Event A) → WorldView A → L → L →
    Type 0
Told {A} hears old events new first last =
    (answers : List (Answer A)) × AnswersAll old events answers new × HearsAll hears first answers last

pub hears_more : {A L : Type 0} (hears : L → Answer A → L → Type 0) (first now later : L) (all : List (Answer A))
    (answer : Answer A) → HearsAll hears first all now → hears now answer later →
    HearsAll hears first (all ++ answer ∷ []) later
hears_more {A} {L} hears first now later [] answer heard last =
    (later, subst (λ (l : L). hears l answer later) heard last, refl)
hears_more hears first now later (a ∷ all) answer heard last =
    (heard.0, heard.1, hears_more hears heard.0 now later all answer heard.2 last)

-- what a scan names is there in a world exactly if it is in the relay that the world shows
modules_here : {A : Type 0} (world : WorldView A) (relay : Relay) (number : ℕ) (flips : List (ℕ × ℕ)) → Shows world relay →
    (label : LeftLabel A) → slice_get world.labels number ≡ Some label → AreWithin label.grid flips →
    HasModules relay number flips
modules_here {A} world relay number flips s label there within =
    let own = get_map_from (left_label {A = A}) relay.labels number label
    (subst (λ (ls : List (LeftLabel A)). slice_get ls number ≡ Some label) s.labels there) in
    (own.0, own.1, subst (λ (l : LeftLabel A). AreWithin l.grid flips) (sym own.2) within)

-- an event is fair in a world exactly if it is in the relay that the world shows
fair_here : {A : Type 0} (world : WorldView A) (relay : Relay) (event : Event A) → Shows world relay →
    IsFairIn world event → IsFairEvent relay event
fair_here {A} world relay (Scan desk number flips stop) s fair = λ named label there.
    fair (
      subst (λ (k : ℕ). desk < k) (sym s.desk_count) named.0,
      left_label named.1.0,
      subst (λ (ls : List (LeftLabel A)). slice_get ls number ≡ Some (left_label named.1.0)) (sym s.labels)
          (get_map (left_label {A = A}) relay.labels number named.1.0 named.1.1),
      named.1.2,
    ) (left_label label)
    (subst (λ (ls : List (LeftLabel A)). slice_get ls number ≡ Some (left_label label)) (sym s.labels)
    (get_map (left_label {A = A}) relay.labels number label there))
fair_here world relay event s fair = tt

fair_there : {A : Type 0} (world : WorldView A) (relay : Relay) (event : Event A) → Shows world relay →
    IsFairEvent relay event → IsFairIn world event
fair_there {A} world relay (Scan desk number flips stop) s fair = λ named label there.
    let shown : slice_get (map (left_label {A = A}) relay.labels) number ≡ Some label =
    subst (λ (ls : List (LeftLabel A)). slice_get ls number ≡ Some label) s.labels there in
    let own = get_map_from (left_label {A = A}) relay.labels number label shown in
    subst (λ (l : LeftLabel A). IsNear (flipped l.grid flips) l.grid) own.2
    (fair (
      subst (λ (k : ℕ). desk < k) s.desk_count named.0,
      modules_here world relay number flips s named.1 named.2 named.3,
    ) own.0 own.1)
fair_there world relay event s fair = tt

looked_here : {A : Type 0} (world : WorldView A) (relay : Relay) (event : Event A) → Shows world relay →
    IsLookedAt world event → MayBeLookedAt relay event
looked_here world relay (Scan desk number flips stop) s looked = (
  subst (λ (k : ℕ). desk < k) s.desk_count looked.0,
  modules_here world relay number flips s looked.1 looked.2 looked.3,
)
looked_here world relay event s looked = absurd looked

-- what was answered is a run of the relay
record Answered {A : Type 0} (ranges : List Range) (capacities : List ℕ) (relay : Relay) (events : List (Event A))
    (answers : List (Answer A)) (new : WorldView A) (h : List (Moment A)) : Type 0 where
  pub moments : List (Moment A)
  pub stands : StandsFor ranges capacities new (onto moments h)
  pub answered : AreAnswers events answers moments stands.relay
  pub first : first_of moments stands.relay ≡ relay

are_answered : {A : Type 0} (ranges : List Range) (capacities : List ℕ) (h : List (Moment A))
    (old new : WorldView A) (events : List (Event A)) (answers : List (Answer A)) →
    (s : StandsFor ranges capacities old h) → AnswersAll old events answers new →
    Answered ranges capacities s.relay events answers new h
are_answered {A} ranges capacities h old new [] [] s all = record {
  moments = [];
  stands = record {
    are_ranges = s.are_ranges;
    disjoint = s.disjoint;
    are_capacities = s.are_capacities;
    relay = s.relay;
    run = s.run;
    shows = subst (λ (w : WorldView A). Shows w s.relay) (sym all) s.shows;
  };
  answered = tt;
  first = refl;
}
are_answered {A} ranges capacities h old new (event ∷ events) (Given is_honest reply ∷ answers) s all =
    let now : Moment A = record { before = s.relay; event = event; reply = reply } in
    let more = are_answered ranges capacities (now ∷ h) all.0 new events answers
    (all.1.1 ranges capacities h s) all.2 in
    record {
      moments = now ∷ more.moments;
      stands = more.stands;
      answered = (
        refl,
        refl,
        (
          (λ yes. fair_here old s.relay event s.shows (all.1.0.0 yes)),
          (λ fair. all.1.0.1 (fair_there old s.relay event s.shows fair)),
        ),
        more.answered,
      );
      first = refl;
    }
are_answered {A} ranges capacities h old new (event ∷ events) (NotGiven ∷ answers) s all =
    let same : StandsFor ranges capacities all.0 h = record {
      are_ranges = s.are_ranges;
      disjoint = s.disjoint;
      are_capacities = s.are_capacities;
      relay = s.relay;
      run = s.run;
      shows = subst (λ (w : WorldView A). Shows w s.relay) (sym all.1.1) s.shows;
    } in
    let more = are_answered ranges capacities h all.0 new events answers same all.2 in
    record {
      moments = more.moments;
      stands = more.stands;
      answered = (
        subst (λ (r : Relay). MayBeLookedAt r event) (sym more.first) (looked_here old s.relay event s.shows all.1.0),
        more.answered,
      );
      first = more.first;
    }
are_answered ranges capacities h old new [] (answer ∷ answers) s all = absurd all
are_answered ranges capacities h old new (event ∷ events) [] s all = absurd all

pub is_watched : {A : Type 0} (ranges : List Range)
    (capacities : List ℕ) (old new : WorldView A) (events : List (Event A)) (answers : List (Answer A)) →
    StandsFor ranges capacities old [] → AnswersAll old events answers new →
    IsWatched ranges capacities events answers
is_watched {A} ranges capacities old new events answers stands all =
    let a = are_answered ranges capacities [] old new events answers stands all in
    let so = each_run_is_true A ranges capacities (onto a.moments []) a.stands.relay a.stands.disjoint a.stands.run in
    record {
      are_ranges = stands.are_ranges;
      disjoint = stands.disjoint;
      are_capacities = stands.are_capacities;
      moments = a.moments;
      end = a.stands.relay;
      run = a.stands.run;
      answered = a.answered;
      once = so.0;
      true_moments = so.1;
    }

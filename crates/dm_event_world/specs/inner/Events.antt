-- Events of a world; and how what a set and a desk hold is coded, which a model requires of its value.
use Rattle.std.specs.{Ordering.nat_cmp, Coded.Coded, Coded.coded_ℕ, Coded.coded_list}
use Rattle.std.specs.Prelude.{◌≡◌, ◌↔◌, true, List, [], ◌∷◌}
use Rattle.std.specs.FinMap as map
use Rattle.dm_store.specs.Saved.{Contents}
use Rattle.dm_event_history.specs.{declared.event.Event.Event, declared.reply.Reply.Reply, Headline.RelayIsInOrder}
use Rattle.dm_event_history.specs.{Relay.Relay, Steps.Step}
use Rattle.dm_event_world.specs.declared.answers.Answer.{Answer, TheVariants.Given, TheVariants.NotGiven}
use Rattle.dm_event_world.specs.Shows.{Shows, GoesOn, IsFairIn, IsLookedAt, WorldView}

abbrev pub contents_code : Coded Contents
contents_code = map.code {R = nat_cmp} coded_ℕ (coded_list coded_ℕ)

-- the relay makes a step by the event, and the world shows the relay after it
pub record TakesOn {A : Type 0} (relay : Relay) (event : Event A) (reply : Reply A) (new : WorldView A) : Type 0 where
  pub next : Relay
  pub step : Step relay event reply next
  pub shows : Shows new next

-- this holds of each relay that the world showed
abbrev pub StepsEach : {A : Type 0} → WorldView A → Event A → Reply A → WorldView A → Type 0
StepsEach old event reply new = (relay : Relay) → RelayIsInOrder relay → Shows old relay → TakesOn relay event reply new

-- An event that is looked at first is given to the world, and found honest exactly if it is fair or names something
-- that is not there. Only a scan of something that is there can fail to be given, if memory for the look is refused; it
-- changes nothing.
abbrev pub Answers : {A : Type 0} → WorldView A → Event A → Answer A → WorldView A → Type 0
Answers old event (Given is_honest reply) new = ((is_honest ≡ true) ↔ IsFairIn old event) × GoesOn old event reply new
Answers old event NotGiven new = IsLookedAt old event × (new ≡ old)

-- the same for each event in turn
abbrev pub AnswersAll : {A : Type 0} → WorldView A → List (Event A) → List (Answer A) → WorldView A → Type 0
AnswersAll old [] [] new = new ≡ old
AnswersAll {A} old (event ∷ events) (answer ∷ answers) new =
    (mid : WorldView A) × Answers old event answer mid × AnswersAll mid events answers new
AnswersAll old [] (answer ∷ answers) new = ⊥
AnswersAll old (event ∷ events) [] new = ⊥

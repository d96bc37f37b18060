-- The sides of which a document has labels, one after another.
use Rattle.std.proofs.Common.{◌≡◌, ◌≢◌, ◌==◌, ℕ, ◌+◌, ◌<◌, ◌≤◌, Bool, false, List, [], ◌∷◌, ◌++◌, inl, inr, get_or, length, refl, sym, ap, subst, ◌∙◌, arith, length-append}
use Rattle.std.specs.List.{AllPairs, Contains}
use Rattle.std.proofs.lemmas.{Bool.cases_lt, Bool.false≢true, List.get_or_default}
use Rattle.std.proofs.lemmas.List.Elements.{Contains-append_left, Contains-get_or, Contains-push, Contains-push_cases}
use Rattle.std.proofs.lemmas.List.Quantifiers.{all_pairs_push}
use Rattle.dm_size.specs.{declared.size.Size.Size, Sizes.side}
use Rattle.dm_encodation.specs.declared.scheme.Scheme.{Scheme}
use Rattle.dm_print_ledger.specs.Verdicts.{HasLabels}
use Rattle.relay_printer_commands.specs.{declared.lines.PlannedSide.PlannedSide, Printers.IsPlan, Printers.IsPlanned}

-- a number of labels of a side
abbrev pub planned_at : ℕ → ℕ → PlannedSide
planned_at side count = record { side = side; count = count }

module _ (scheme : Scheme) (document : List ℕ) (sizes : List Size) where
  -- the plan has what the first sizes have, this many of them, and the other sizes are greater
  pub record PlanOf (n : ℕ) (plan : List PlannedSide) : Type 0 where
    pub planned : (planned : PlannedSide) → Contains plan planned → IsPlanned scheme document planned
        × ((i : ℕ) (d : Size) → n ≤ i → i < length sizes → planned.side < side (get_or sizes i d))
    pub names : (i : ℕ) (d : Size) (count : ℕ) → i < n → HasLabels (get_or sizes i d) scheme document count
        → Contains plan (planned_at (side (get_or sizes i d)) count)
    pub rising : AllPairs (λ before after. before.side < after.side) plan
    pub few : length plan ≤ n

  module _ (n : ℕ) (e : Size) (plan : List PlannedSide) (so_far : PlanOf n plan) (inside : n < length sizes) where
    same : (i : ℕ) (d : Size) → i < n + 1 → n ≤ i → get_or sizes i d ≡ get_or sizes n e
    same i d less past =
        let here : i ≡ n = omega (arith, less, past) in
        ap (λ k. get_or sizes k d) here ∙ get_or_default sizes n d e inside

    -- a size of which the document has no labels
    pub passed_over : ((count : ℕ) → ¬ HasLabels (get_or sizes n e) scheme document count) → PlanOf (n + 1) plan
    passed_over none = record {
      planned = λ planned there.
          let old = so_far.planned planned there in
          (old.0, λ i d past. old.1 i d (omega (arith, past)));
      names = λ i d count less has. elim (cases_lt i n) [
        | inl before ↦ so_far.names i d count before has
        | inr past ↦ absurd (none count
            (subst (λ (size : Size). HasLabels size scheme document count) (same i d less past) has))
      ];
      rising = so_far.rising;
      few = let few = so_far.few in omega arith;
    }

    -- a size of which it has labels
    pub one_more : (count : ℕ) → AllPairs (λ before after. side before < side after) sizes
        → HasLabels (get_or sizes n e) scheme document count
        → ((other : ℕ) → HasLabels (get_or sizes n e) scheme document other → count ≡ other)
        → PlanOf (n + 1) (plan ++ planned_at (side (get_or sizes n e)) count ∷ [])
    one_more count up has one =
        let new : PlannedSide = planned_at (side (get_or sizes n e)) count in
        let greater : (i : ℕ) (d : Size) → n + 1 ≤ i → i < length sizes → new.side < side (get_or sizes i d) =
        λ i d past last. rw (get_or_default sizes n d e inside) at (up n i d (omega (arith, past)) last) in
        record {
          planned = λ planned there. elim (Contains-push_cases plan new planned there) [
            | inl before ↦
                let old = so_far.planned planned before in
                (old.0, λ i d past. old.1 i d (omega (arith, past)))
            | inr is ↦ subst (λ (p : PlannedSide). IsPlanned scheme document p
                × ((i : ℕ) (d : Size) → n + 1 ≤ i → i < length sizes → p.side < side (get_or sizes i d))) is
                ((get_or sizes n e, refl, has), greater)
          ];
          names = λ i d other less labels. elim (cases_lt i n) [
            | inl before ↦ Contains-append_left plan (new ∷ []) (planned_at (side (get_or sizes i d)) other)
                (so_far.names i d other before labels)
            | inr past ↦
                let is = same i d less past in
                let count_is = one other (subst (λ (size : Size). HasLabels size scheme document other) is labels) in
                let is_new : new ≡ planned_at (side (get_or sizes i d)) other =
                ap (λ (size : Size). planned_at (side size) count) (sym is) ∙ ap (planned_at (side (get_or sizes i d)))
                count_is in
                subst (Contains (plan ++ new ∷ [])) is_new (Contains-push plan new)
          ];
          rising = all_pairs_push (λ (before after : PlannedSide). before.side < after.side) plan new so_far.rising
              (λ k d there. (so_far.planned _ (Contains-get_or plan k d there)).1 n e (omega arith) inside);
          few = let few = so_far.few in omega (arith, length-append plan (new ∷ []));
        }

  -- all sizes
  pub all_planned : (n : ℕ) (plan : List PlannedSide) → length sizes ≤ n → ((size : Size) → Contains sizes size)
      → PlanOf n plan → IsPlan scheme document plan
  all_planned n plan all each so_far = record {
    names = λ planned. (
      λ there. (so_far.planned planned there).0,
      λ is.
          let there = each is.0 in
          let has = subst (λ (size : Size). HasLabels size scheme document planned.count) (sym there.2) is.2 in
          let named = so_far.names there.0 is.0 planned.count (omega (arith, there.1, all)) has in
          subst (λ s. Contains plan (planned_at s planned.count)) (ap side there.2 ∙ is.1) named,
    );
    rising = so_far.rising;
  }

module _ (scheme : Scheme) (document : List ℕ) where
  -- the plan is empty where the document has labels of no size
  pub no_plan : (plan : List PlannedSide) → IsPlan scheme document plan → length plan ≡ 0
      → (size : Size) (count : ℕ) → ¬ HasLabels size scheme document count
  no_plan plan is empty size count labels =
      let there = (is.names (planned_at (side size) count)).1 (size, refl, labels) in
      omega (arith, empty, there.1)

-- a plan that is not empty
pub some_planned : (plan : List PlannedSide) (empty : Bool) → empty ≡ (length plan == 0) → empty ≡ false → plan ≢ []
some_planned [] empty is some none = false≢true (sym some ∙ is)
some_planned (first ∷ others) empty is some none = cc

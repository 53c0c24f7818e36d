-- What the job that acts closes is each time the last open area.
use Rattle.std.specs.Prelude.{Option, Some, None, option_to_list}
use Rattle.std.proofs.Common.{◌≡◌, ◌∙◌, ℕ, ◌<◌, true, false, List, [], ◌∷◌, ◌++◌, ◌⊎◌, inl, inr, refl, sym, ap, subst, arith}
use Rattle.scj_rules.specs.Words.{is_among, ◌>>=◌}
use Rattle.scj_tree.specs.Forest.{Forest}
use Rattle.scj_model.specs.Code.{code_of}
use Rattle.scj_model.specs.Choice.{by_priority, chosen}
use Rattle.scj_model.specs.Memory.{closed}
use Rattle.scj_model.specs.Plan.{Plan}
use Rattle.scj_model.specs.Reached.{Arrived, Operated, Reached}
use Rattle.scj_model.specs.Sequencer.{innermost}
use Rattle.scj_model.specs.State.{Activity, Frame, ReleaseAt, ReleaseStatus, Waits, Started, Ended, Dropped, Release, State, TheSequencer, Turn, TurnOf, IdleTurn, activity_in, activity_of, is_exec, is_open_area}
use Rattle.accepted_laws.specs.Programs.{IsAcceptedProgram}
use Rattle.priority_laws.specs.Started.{started_at}
use Rattle.priority_laws.specs.InOrder.{IsInOrder}
use Rattle.priority_laws.specs.Nesting.{AreBefore, Falls, IsOpenedByRelease, opened_by}
use Rattle.accepted_laws.proofs.Tools.{some_inj}
use Rattle.priority_laws.proofs.AreaLists.{among_cases, among_here, among_later, among_left, among_right, number_cases, shut_keeps, shut_open}
use Rattle.priority_laws.proofs.ChosenTurns.{latest_started}
use Rattle.priority_laws.proofs.LatestRelease.{IsLatest}
use Rattle.priority_laws.proofs.ReachedOrder.{ordered}
use Rattle.priority_laws.proofs.Urgency.{IsChosen, is_chosen}
use Rattle.scope_sound.specs.FramedAndPlaced.{Framed}
use Rattle.area_laws.specs.OpenAreas.{CloseInOrder, ClosesLast, IsLastOpen, StandsInOpenAreas}
use Rattle.area_laws.proofs.OpenLists.{framed_by_priority, opened_listed, stands_open}

-- the areas of a list, the last opened first, are the last ones of those that are open
pub record AreLastOpen (s : State) (list : List ℕ) : Type 0 where
  pub falls : Falls list
  pub are_open : (a : ℕ) → is_among a list ≡ true → is_open_area s a ≡ true
  pub others : (b : ℕ) → is_open_area s b ≡ true →
      (is_among b list ≡ true) ⊎ ((a : ℕ) → is_among a list ≡ true → b < a)

first_last : (s : State) (a : ℕ) (list : List ℕ) → AreLastOpen s (a ∷ list) → IsLastOpen s a
first_last s a list l =
    record { is_open = l.are_open a (among_here a list); last = λ b more here. last b more (l.others b here) }
  where
    last : (b : ℕ) → a < b →
        (is_among b (a ∷ list) ≡ true) ⊎ ((c : ℕ) → is_among c (a ∷ list) ≡ true → b < c) → ⊥
    last b more (inl m) = by (among_cases b a list m)
      where
        by : (b ≡ a) ⊎ (is_among b list ≡ true) → ⊥
        by (inl e) = omega (arith, more, e)
        by (inr k) = let less : b < a = l.falls.0 b k in omega (arith, more, less)
    last b more (inr h) = let less : b < a = h a (among_here a list) in omega (arith, more, less)

first_closed : (s : State) (a : ℕ) (list : List ℕ) → AreLastOpen s (a ∷ list) → AreLastOpen (closed s (Some a)) list
unfolding closed
first_closed s a list l =
    record {
      falls = l.falls.1;
      are_open = λ b m.
          let less : b < a = l.falls.0 b m in
          shut_keeps a b s.areas (λ e. omega (arith, less, e)) ∙ l.are_open b (among_later b a list m);
      others = λ b here. other b (shut_open a b s.areas here).1 (l.others b (shut_open a b s.areas here).0);
    }
  where
    other : (b : ℕ) → (b ≡ a → ⊥) →
        (is_among b (a ∷ list) ≡ true) ⊎ ((c : ℕ) → is_among c (a ∷ list) ≡ true → b < c) →
        (is_among b list ≡ true) ⊎ ((c : ℕ) → is_among c list ≡ true → b < c)
    other b n (inl m) = by (among_cases b a list m)
      where
        by : (b ≡ a) ⊎ (is_among b list ≡ true) →
            (is_among b list ≡ true) ⊎ ((c : ℕ) → is_among c list ≡ true → b < c)
        by (inl e) = absurd (n e)
        by (inr k) = inl k
    other b n (inr h) = inr (λ c m. h c (among_later c a list m))

-- one by one
in_order : (s : State) (fs : List Frame) → AreLastOpen s (opened_by fs) → CloseInOrder s fs
unfolding closed
in_order s [] l = tt
in_order s (f ∷ fs) l = go f.opened l (in_order s fs) (λ a. in_order (closed s (Some a)) fs)
  where
    go : (o : Option ℕ) → AreLastOpen s (option_to_list o ++ opened_by fs) →
        (AreLastOpen s (opened_by fs) → CloseInOrder s fs) →
        ((a : ℕ) → AreLastOpen (closed s (Some a)) (opened_by fs) → CloseInOrder (closed s (Some a)) fs) →
        ClosesLast s o × CloseInOrder (closed s o) fs
    go None l stays more = (tt, stays l)
    go (Some a) l stays more =
        (first_last s a (opened_by fs) l, more a (first_closed s a (opened_by fs) l))

-- ---- lists that fall

before_front : (xs ys : List ℕ) → Falls (xs ++ ys) → AreBefore ys xs
before_front [] ys h a b m k = absurd (cc (k))
before_front (x ∷ xs) ys h a b m k = go (among_cases b x xs k) (before_front xs ys h.1 a b m)
  where
    go : (b ≡ x) ⊎ (is_among b xs ≡ true) → (is_among b xs ≡ true → a < b) → a < b
    go (inl e) more = let less : a < x = h.0 a (among_right a xs ys m) in omega (arith, less, e)
    go (inr n) more = more n

falls_front : (xs ys : List ℕ) → Falls (xs ++ ys) → Falls xs
falls_front [] ys h = tt
falls_front (x ∷ xs) ys h = (λ a m. h.0 a (among_left a xs ys m), falls_front xs ys h.1)

either_of : (b : ℕ) (xs ys : List ℕ) → is_among b (xs ++ ys) ≡ true → (is_among b xs ≡ true) ⊎ (is_among b ys ≡ true)
either_of b [] ys m = inr m
either_of b (x ∷ xs) ys m = go (among_cases b x (xs ++ ys) m) (either_of b xs ys)
  where
    later : (is_among b xs ≡ true) ⊎ (is_among b ys ≡ true) → (is_among b (x ∷ xs) ≡ true) ⊎ (is_among b ys ≡ true)
    later (inl k) = inl (among_later b x xs k)
    later (inr k) = inr k

    go : (b ≡ x) ⊎ (is_among b (xs ++ ys) ≡ true) →
        (is_among b (xs ++ ys) ≡ true → (is_among b xs ≡ true) ⊎ (is_among b ys ≡ true)) →
        (is_among b (x ∷ xs) ≡ true) ⊎ (is_among b ys ≡ true)
    go (inl e) more = inl (subst (λ c. is_among c (x ∷ xs) ≡ true) (sym e) (among_here x xs))
    go (inr n) more = later (more n)

-- ---- the release that is chosen

started_status : (status : ReleaseStatus) (a : Activity) → activity_in status ≡ Some a → status ≡ Started a
unfolding activity_in
started_status Waits a e = absurd (cc)
started_status (Started b) a e = let same : b ≡ a = cc in ap (λ x. Started x) same
started_status Ended a e = absurd (cc)
started_status Dropped a e = absurd (cc)

abbrev turn_of : Option ℕ → Turn
turn_of o = elim o as (λ z. Turn) [ None ↦ IdleTurn | Some index ↦ TurnOf index ]

pub chosen_of : (s : State) (index : ℕ) → by_priority s ≡ Some (TurnOf index) → chosen s ≡ Some index
unfolding by_priority
chosen_of s index e = go (chosen s) refl
  where
    reported : turn_of (chosen s) ≡ TurnOf index
    reported = some_inj (turn_of (chosen s)) (TurnOf index) e

    go : (o : Option ℕ) → chosen s ≡ o → chosen s ≡ Some index
    go None f =
        let idle : turn_of (chosen s) ≡ IdleTurn = ap turn_of f in
        let is : turn_of (chosen s) ≡ TurnOf index = reported in
        absurd (cc)
    go (Some n) f =
        let other : turn_of (chosen s) ≡ TurnOf n = ap turn_of f in
        let is : turn_of (chosen s) ≡ TurnOf index = reported in
        let same : n ≡ index = cc in
        f ∙ ap (λ (k : ℕ). Some k) same

module _ (forest : Forest) (accepted : IsAcceptedProgram forest) (plan : Plan) (s : State) where
  pub release_closes : Reached (code_of forest) plan by_priority Arrived s → (index : ℕ) (activity : Activity) →
      by_priority s ≡ Some (TurnOf index) → activity_of s (ReleaseAt index) ≡ Some activity →
      CloseInOrder s activity.frames
  unfolding activity_of
  release_closes reached index activity turn e =
      in_order s activity.frames
      (record {
        falls = latest.falls;
        are_open = λ a m. stands.listed a (opened_listed s (code_of forest) (ReleaseAt index) framed activity e a m);
        others = λ b here. other b (o.opened.is b here);
      })
    where
      framed : Framed (code_of forest) s (ReleaseAt index)
      framed = framed_by_priority forest accepted plan Arrived s reached (ReleaseAt index)

      stands : StandsInOpenAreas s activity
      stands = stands_open s (code_of forest) (ReleaseAt index) framed activity e

      o : IsInOrder s
      o = (ordered (code_of forest) plan reached).order

      k : IsChosen s index
      k = is_chosen s index (chosen_of s index turn)

      latest : IsLatest s index k.release.handler activity.priority activity.frames
      latest =
          latest_started s o index k activity
          (started_status k.release.status activity
          (sym (ap (λ (x : Option Release). x >>= (λ r. activity_in r.status)) k.is_there) ∙ e))

      other : (b : ℕ) → (is_among b s.activity.areas ≡ true) ⊎ IsOpenedByRelease s b →
          (is_among b (opened_by activity.frames) ≡ true)
          ⊎ ((a : ℕ) → is_among a (opened_by activity.frames) ≡ true → b < a)
      other b (inl m) = inr (λ a h. latest.are_inside b a m h)
      other b (inr r) = by (number_cases index r.index)
        where
          by : (index ≡ r.index) ⊎ (index ≡ r.index → ⊥) →
              (is_among b (opened_by activity.frames) ≡ true)
              ⊎ ((a : ℕ) → is_among a (opened_by activity.frames) ≡ true → b < a)
          by (inl same) =
              let here : started_at s.releases index ≡ Some r.release =
              ap (λ (n : ℕ). started_at s.releases n) same ∙ r.is_there in
              inl (subst (λ (fs : List Frame). is_among b (opened_by fs) ≡ true) (latest.mine r.release here)
              r.is_opened)
          by (inr n) = inr (λ a h. latest.areas r.index r.release n r.is_there b a r.is_opened h)

  -- outside execution what is open is the sequencer's
  outside : (o : IsInOrder s) → is_exec s.phase ≡ false → (b : ℕ) → is_open_area s b ≡ true →
      is_among b s.activity.areas ≡ true
  outside o phase b here = go (o.opened.is b here)
    where
      go : (is_among b s.activity.areas ≡ true) ⊎ IsOpenedByRelease s b → is_among b s.activity.areas ≡ true
      go (inl m) = m
      go (inr r) =
          let none : started_at s.releases r.index ≡ None = o.turns.outside phase r.index in
          let some : started_at s.releases r.index ≡ Some r.release = r.is_there in
          absurd (cc)

  pub sequencer_closes : Reached (code_of forest) plan by_priority Arrived s → is_exec s.phase ≡ false →
      CloseInOrder s s.activity.frames
  unfolding activity_of
  sequencer_closes reached phase =
      in_order s s.activity.frames
      (record {
        falls = falls_front opened base falls;
        are_open = λ a m. stands.listed a (opened_listed s (code_of forest) TheSequencer framed s.activity refl a m);
        others = λ b here.
            other b (either_of b opened base
            (subst (λ (xs : List ℕ). is_among b xs ≡ true) o.sequencer.is_list (outside o phase b here)));
      })
    where
      framed : Framed (code_of forest) s TheSequencer
      framed = framed_by_priority forest accepted plan Arrived s reached TheSequencer

      stands : StandsInOpenAreas s s.activity
      stands = stands_open s (code_of forest) TheSequencer framed s.activity refl

      o : IsInOrder s
      o = (ordered (code_of forest) plan reached).order

      opened : List ℕ
      opened = opened_by s.activity.frames

      base : List ℕ
      base = o.sequencer.base

      falls : Falls (opened ++ base)
      falls = subst (λ (xs : List ℕ). Falls xs) o.sequencer.is_list o.sequencer.falls

      other : (b : ℕ) → (is_among b opened ≡ true) ⊎ (is_among b base ≡ true) →
          (is_among b opened ≡ true) ⊎ ((a : ℕ) → is_among a opened ≡ true → b < a)
      other b (inl m) = inl m
      other b (inr m) = inr (λ a h. before_front opened base falls b a m h)

  pub mission_closes : Reached (code_of forest) plan by_priority Operated s → is_exec s.phase ≡ false →
      ClosesLast s (innermost s.activity.areas)
  unfolding activity_of innermost
  mission_closes reached phase = go s.activity.areas refl
    where
      framed : Framed (code_of forest) s TheSequencer
      framed = framed_by_priority forest accepted plan Operated s reached TheSequencer

      stands : StandsInOpenAreas s s.activity
      stands = stands_open s (code_of forest) TheSequencer framed s.activity refl

      o : IsInOrder s
      o = (ordered (code_of forest) plan reached).order

      go : (xs : List ℕ) → s.activity.areas ≡ xs → ClosesLast s (innermost xs)
      go [] e = tt
      go (a ∷ rest) e =
          first_last s a rest
          (record {
            falls = subst (λ (xs : List ℕ). Falls xs) e o.sequencer.falls;
            are_open = λ b m.
                stands.listed b (subst (λ (xs : List ℕ). is_among b xs ≡ true) (sym e) m);
            others = λ b here.
                inl (subst (λ (xs : List ℕ). is_among b xs ≡ true) e (outside o phase b here));
          })

-- In execution the store has room for the area that the release which is chosen opens, where it is as large as is needed.
use Rattle.std.specs.Prelude.{Option, Some, None, Contains, map, nat_lt, slice_get}
use Rattle.std.proofs.Common.{◌≡◌, ℕ, zero, suc, ◌+◌, ◌*◌, ◌≤◌, ◌||◌, List, [], ◌∷◌, true, false, not, inl, inr, refl, sym, ◌∙◌, ap, subst, arith}
use Rattle.std.proofs.lemmas.Bool.Decides.{nat_tests}
use Rattle.scj_tree.specs.Forest.{Forest}
use Rattle.scj_tree.specs.Heights.{highest}
use Rattle.scj_rules.specs.declared.views.Body.{Body}
use Rattle.scj_rules.specs.Bodies.{number_literal}
use Rattle.scj_rules.specs.Contexts.{Declarations}
use Rattle.scj_rules.specs.Definitions.{read}
use Rattle.scj_rules.specs.Words.{◌>>=◌}
use Rattle.scj_rules.proofs.ReportLemmas.{Contains-cases, Contains-head, Contains-tail, none_contained}
use Rattle.accepted_laws.specs.Programs.{IsAcceptedProgram}
use Rattle.accepted_laws.proofs.Tools.{some_inj}
use Rattle.accepted_laws.proofs.Typed.{behind_children}
use Rattle.scj_model.specs.declared.handlers.HandlerRow.{HandlerRow}
use Rattle.scj_model.specs.Choice.{by_list, by_priority, chosen}
use Rattle.scj_model.specs.Code.{code_of, position_of_node}
use Rattle.scj_model.specs.Memory.{has_store_for, reserved, rounded_up}
use Rattle.scj_model.specs.Plan.{Plan}
use Rattle.scj_model.specs.Reached.{Arrived, Reached}
use Rattle.scj_model.specs.Registry.{handler_row}
use Rattle.scj_model.specs.Safety.{IsSafe, started_count}
use Rattle.scj_model.specs.State.{Activity, Frame, IdleTurn, Release, ReleaseAt, ReleaseStatus, Started, State, Turn, TurnOf, Waits, activity_in, activity_of, is_exec, is_started, is_waiting, with_activity}
use Rattle.scj_model.proofs.Following.{by_some_list, fair_listed, priority_is_fair}
use Rattle.mission_sound.specs.Invariant.{Invariant}
use Rattle.priority_laws.specs.Handlers.{PrioritiesAreRight}
use Rattle.priority_laws.specs.InOrder.{IsInOrder}
use Rattle.priority_laws.specs.Nesting.{opened_by}
use Rattle.priority_laws.specs.Started.{StartedRelease, started_as, started_at, started_in}
use Rattle.priority_laws.proofs.AreaMoves.{areas_stay}
use Rattle.priority_laws.proofs.ChosenTurns.{latest_waits}
use Rattle.priority_laws.proofs.FewReleases.{few_started}
use Rattle.priority_laws.proofs.LatestRelease.{order_kept}
use Rattle.priority_laws.proofs.ReachedOrder.{ordered}
use Rattle.priority_laws.proofs.ReleaseMoves.{ReleaseMoves, ceilings_same, moves_on}
use Rattle.priority_laws.proofs.RightRuns.{right_priorities}
use Rattle.priority_laws.proofs.Urgency.{IsChosen, is_chosen}
use Rattle.reference_sound.proofs.Held.{jobs_with_activity}
use Rattle.scope_sound.specs.Sound.{HasFacts}
use Rattle.scope_sound.proofs.CallsByTypes.{calls_by_types}
use Rattle.scope_sound.proofs.Safe.{has_facts, safe}
use Rattle.certain_faults.proofs.Runs.{classes_ask_nothing, invariant_of}
use Rattle.frame_sound.proofs.Changes.{changed_at}
use Rattle.memory_needs.specs.declared.answers.BoundAnswer.{BoundAnswer}
use Rattle.memory_needs.specs.declared.answers.BoundAnswer.TheVariants.{Yes, No}
use Rattle.memory_needs.specs.declared.answers.BoundRow.{BoundRow}
use Rattle.memory_needs.specs.declared.answers.NoBound.{NoBound}
use Rattle.memory_needs.specs.declared.answers.NoBound.TheVariants.{NotLiteral}
use Rattle.memory_needs.specs.Causes.{IsNowhere, Shows, of_form, storage, storage_node}
use Rattle.memory_needs.specs.Rows.{AllSuffice, AreRows, IsAnswer, IsRoom, handler_classes, immortal_bytes, is_no, mission_bytes, release_bytes, rounded_or_0, store_needed}
use Rattle.memory_bounds.proofs.AreaRuns.{all_have}
use Rattle.memory_bounds.proofs.Areas.{Has}
use Rattle.memory_bounds.proofs.BaseAreas.{InBase, base_fits, opened_with}
use Rattle.memory_bounds.proofs.ChainRuns.{AreChained, all_chained}
use Rattle.memory_bounds.proofs.Chains.{Chain}
use Rattle.memory_bounds.proofs.ChainSteps.{EntersIn}
use Rattle.memory_bounds.proofs.FormProgram.{rows_report}
use Rattle.memory_bounds.proofs.HandlerClasses.{IsConcreteHandler, is_listed, one_of_highest}
use Rattle.memory_bounds.proofs.OpenBytes.{total}
use Rattle.memory_bounds.proofs.Programs.{first}
use Rattle.memory_bounds.proofs.Reserved.{area_bytes, reserved_with}
use Rattle.memory_bounds.proofs.RoomChains.{all_fit, entering, top_fits}
use Rattle.memory_bounds.proofs.StoredForms.{has_storage}
use Rattle.memory_bounds.proofs.Yes.{row_is_handler}

-- ---- numbers

times_le : (x n m : ℕ) → n ≤ m → x * n ≤ x * m
times_le x zero m l = omega arith
times_le x (suc n) zero l = absurd (omega (arith, l))
times_le x (suc n) (suc m) l =
    (let h = times_le x n m (omega (arith, l)) in
    let a : x * suc n ≡ x * n + x = grind arith in
    let b : x * suc m ≡ x * m + x = grind arith in
    omega (arith, h, a, b))

store_has : (store most bytes : ℕ) → most + bytes ≤ store → not (nat_lt store (most + bytes)) ≡ true
store_has store most bytes l = (let e : nat_lt store (most + bytes) ≡ false = grind (arith, nat_tests, l) in ap not e)

-- ---- rows

mapped : {A : Type 0} (f : A → ℕ) (xs : List A) (y : ℕ) → Contains (map f xs) y → (x : A) × Contains xs x × (f x ≡ y)
mapped f [] y c = absurd (none_contained y c)
mapped {A} f (x ∷ xs) y c =
    elim (Contains-cases (f x) (map f xs) y c) as (λ z. (w : A) × Contains (x ∷ xs) w × (f w ≡ y)) [
      | inl e ↦ (x, Contains-head x xs, e)
      | inr k ↦ (let r = mapped f xs y k in (r.0, Contains-tail x xs r.0 r.1, r.2))
    ]

yes_of : (a : BoundAnswer) → is_no a ≡ false → (bytes : ℕ) × (a ≡ Yes bytes)
yes_of (Yes bytes) e = (bytes, refl)
yes_of (No cause at) e = absurd (cc (e))

turn_of : Option ℕ → Turn
turn_of o = elim o as (λ z. Turn) [ None ↦ IdleTurn | Some index ↦ TurnOf index ]

chosen_of : (s : State) (index : ℕ) → by_priority s ≡ Some (TurnOf index) → chosen s ≡ Some index
unfolding by_priority turn_of
chosen_of s index e = of (chosen s) (some_inj (turn_of (chosen s)) (TurnOf index) e)
  where
    of : (o : Option ℕ) → turn_of o ≡ TurnOf index → o ≡ Some index
    of None k = absurd (cc (k))
    of (Some q) k = (let same : q ≡ index = cc (k) in ap (λ n. Some n) same)

module _ (forest : Forest) (a : IsAcceptedProgram forest) (rows : List BoundRow) (are : AreRows (code_of forest) rows)
    (all : AllSuffice rows) (rooms : ℕ → ℕ)
    (are_rooms : (class : ℕ) → Contains (handler_classes (code_of forest).program) class →
    IsRoom (code_of forest) class (rooms class)) where
  abbrev p : Declarations
  p = (code_of forest).program

  -- each concrete handler class has Yes
  record ClassYes (class : ℕ) : Type 0 where
    bytes : ℕ
    answer : IsAnswer (code_of forest) class (Yes bytes)
    none : (cause : NoBound) → IsNowhere (Shows (code_of forest) class answer.table cause)

  class_yes : (class : ℕ) → IsConcreteHandler p class → ClassYes class
  class_yes class k =
      (let listed = subst (λ (cs : List ℕ). Contains cs class) (sym are.of_handlers) (is_listed p class k) in
      let r = mapped (λ (row : BoundRow). row.handler) rows class listed in
      let y = yes_of r.0.answer (all r.0 r.1) in
      let answer : IsAnswer (code_of forest) class (Yes y.0) =
      subst (λ c. IsAnswer (code_of forest) c (Yes y.0)) r.2
      (subst (IsAnswer (code_of forest) r.0.handler) y.1 (are.are_answers r.0 r.1)) in
      record { bytes = y.0; answer = answer; none = answer.is.no_cause })

  class_storage : (class : ℕ) → IsConcreteHandler p class → (n : ℕ) × (storage p class ≡ Some n)
  unfolding storage Shows code_of
  class_storage class k = of (read p.nodes number_literal m.0) refl
    where
      m : (number : ℕ) × (storage_node p class ≡ Some number)
      m = has_storage forest a class k.concrete k.handler

      of : (o : Option ℕ) → read p.nodes number_literal m.0 ≡ o → (n : ℕ) × (storage p class ≡ Some n)
      of None e =
          absurd ((class_yes class k).none NotLiteral (position_of_node (code_of forest) m.0)
          (record { number = m.0; is_asked = of_form m.1; is_none = e; is_position = refl }))
      of (Some n) e = (n, ap (λ (o : Option ℕ). o >>= read p.nodes number_literal) m.1 ∙ e)

  abbrev each : ℕ
  each = highest (release_bytes p rooms) (handler_classes p)

  module _ (plan : Plan) (s : State) (reached : Reached (code_of forest) plan by_priority Arrived s)
      (exec : is_exec s.phase ≡ true) where
    pub facts : HasFacts (code_of forest)
    facts = has_facts forest a

    pub listed : (choices : List ℕ) × Reached (code_of forest) plan (by_list choices) Arrived s
    listed =
        by_some_list (code_of forest) plan Arrived s
        (fair_listed (code_of forest) plan by_priority priority_is_fair reached)

    pub i : Invariant (code_of forest) s
    i = invariant_of (code_of forest) facts (classes_ask_nothing forest a) plan listed.0 Arrived s listed.1

    has : Has (InBase (code_of forest).program) plan.store s
    has =
        all_have (code_of forest) facts (classes_ask_nothing forest a) (InBase (code_of forest).program)
        (opened_with forest a) plan listed.0 Arrived s listed.1

    chains : AreChained (code_of forest) s
    unfolding code_of
    chains =
        all_chained (code_of forest) facts (classes_ask_nothing forest a) (behind_children forest a.whole) plan listed.0
        Arrived s listed.1

    order : IsInOrder s
    order = (ordered (code_of forest) plan reached).order

    -- ---- a started release

    -- the storage and the Room of a class are among those of all
    fits_class : (h : ℕ) (row : HandlerRow) → handler_row s.registry h ≡ Some row →
        rounded_up row.bytes + rooms row.class ≤ each
    unfolding code_of
    fits_class h row there =
        (let k = row_is_handler forest a plan listed.0 s listed.1 h row there in
        let m = class_storage row.class k in
        let same : row.bytes ≡ m.0 = rows_report forest a plan listed.0 s listed.1 h row m.0 there m.1 in
        let bytes : rounded_or_0 (storage p row.class) ≡ rounded_up row.bytes =
        ap rounded_or_0 m.1 ∙ ap (λ n. rounded_up n) (sym same) in
        let most = one_of_highest (release_bytes p rooms) (handler_classes p) row.class (is_listed p row.class k) in
        omega (arith, bytes, most))

    record Underway (index : ℕ) (b : Activity) : Type 0 where
      r : Release
      there : slice_get s.releases index ≡ Some r
      active : activity_in r.status ≡ Some b
      row : HandlerRow
      is_row : handler_row s.registry r.handler ≡ Some row
      chain : Chain (code_of forest) s row b.frames

    started_is : (status : ReleaseStatus) (b : Activity) → activity_in status ≡ Some b →
        (is_waiting status || is_started status) ≡ true
    unfolding activity_in is_waiting is_started
    started_is (Started c) b e = refl
    started_is _ b e = absurd (cc (e))

    underway : (index : ℕ) (b : Activity) → activity_of s (ReleaseAt index) ≡ Some b → Underway index b
    unfolding activity_of started_at started_in
    underway index b e = of (slice_get s.releases index) refl e
      where
        of : (o : Option Release) → slice_get s.releases index ≡ o → o >>= (λ r. activity_in r.status) ≡ Some b →
            Underway index b
        of None there k = absurd (cc (k))
        of (Some r) there k =
            (let h = i.handlers.handled index r there (started_is r.status b k) in
            let began : started_at s.releases index ≡ Some (started_as r.handler b) =
            ap (λ (o : Option Release). o >>= started_in) there
            ∙ ap (λ (o : Option Activity). elim o as (λ z. Option StartedRelease) [
              | None ↦ None
              | Some x ↦ Some (started_as r.handler x)
            ]) k in
            record {
              r = r;
              there = there;
              active = k;
              row = h.0;
              is_row = h.1;
              chain = chains.is index (started_as r.handler b) h.0 began h.1;
            })

    handler_is : (h : ℕ) (row : HandlerRow) → handler_row s.registry h ≡ Some row → IsConcreteHandler p row.class
    handler_is h row there = row_is_handler forest a plan listed.0 s listed.1 h row there

    all_fits : (index : ℕ) (b : Activity) → activity_of s (ReleaseAt index) ≡ Some b →
        total (area_bytes s) (opened_by b.frames) ≤ each
    all_fits index b e =
        (let u = underway index b e in
        let k = handler_is u.r.handler u.row u.is_row in
        let y = class_yes u.row.class k in
        let fit = all_fit (code_of forest) (first forest a) u.row.class y.answer.table y.none s u.row refl
        (rooms u.row.class) (are_rooms u.row.class (is_listed p u.row.class k)) b.frames u.chain in
        let most = fits_class u.r.handler u.row u.is_row in
        omega (arith, fit, most))

    -- ---- so much is left

    active_of : (rs : List Release) (t : State) → t.releases ≡ rs → (q : ℕ) (x : Release) (b : Activity) →
        slice_get rs q ≡ Some x → activity_in x.status ≡ Some b → activity_of t (ReleaseAt q) ≡ Some b
    unfolding activity_of
    active_of rs t same q x b there e =
        ap (λ (zs : List Release). slice_get zs q >>= (λ r. activity_in r.status)) same
        ∙ (ap (λ (o : Option Release). o >>= (λ r. activity_in r.status)) there ∙ e)

    few : started_count s ≤ 28
    few =
        (let safety : IsSafe (code_of forest) = safe forest a in
        safety.under_priorities.few_are_started plan Arrived s reached)

    enough : (need count : ℕ) → count ≤ 28 → need ≤ (immortal_bytes p + mission_bytes p) + each * count →
        store_needed p rooms ≤ plan.store → need ≤ plan.store
    unfolding store_needed
    enough need count l h e =
        (let m = times_le each count 28 l in
        let same : each * 28 ≡ 28 * each = grind arith in
        omega (arith, m, same, h, e))

    -- a release under way that enters a memory
    pub entering_has_store : store_needed p rooms ≤ plan.store → (index : ℕ) (b : Activity) (f : Frame) (below : List Frame) →
        activity_of s (ReleaseAt index) ≡ Some b → b.frames ≡ f ∷ below → (bytes : ℕ) (target : Body) →
        EntersIn (code_of forest) f.body target bytes → has_store_for s bytes ≡ true
    unfolding has_store_for
    entering_has_store suffices index b f below e frames bytes target enters =
        (let u = underway index b e in
        let k = handler_is u.r.handler u.row u.is_row in
        let y = class_yes u.row.class k in
        let chain : Chain (code_of forest) s u.row (f ∷ below) = subst (Chain (code_of forest) s u.row) frames u.chain in
        let top = top_fits (code_of forest) (first forest a) u.row.class y.answer.table y.none s u.row refl
        (rooms u.row.class) (are_rooms u.row.class (is_listed p u.row.class k)) f below chain in
        let next = entering (code_of forest) (first forest a) u.row.class y.answer.table y.none f.body target bytes
        top.room top.reaches top.is enters in
        let most = fits_class u.r.handler u.row u.is_row in
        let held = top.fits in
        let more = next.fits in
        let same : total (area_bytes s) (opened_by b.frames) ≡ total (area_bytes s) (opened_by (f ∷ below)) =
        ap (λ (fs : List Frame). total (area_bytes s) (opened_by fs)) frames in
        let fits : total (area_bytes s) (opened_by b.frames) + rounded_up bytes ≤ each =
        omega (arith, same, held, more, most) in
        let all_reserved = reserved_with s each (rounded_up bytes) order.opened index u.r b u.there u.active fits
        (λ q x c there is. all_fits q c (active_of s.releases s refl q x c there is)) in
        let base = base_fits forest a plan.store s i has exec in
        let le : reserved s + rounded_up bytes ≤ plan.store =
        enough (reserved s + rounded_up bytes) (started_count s) few (omega (arith, all_reserved, base)) suffices in
        store_has s.store (reserved s) (rounded_up bytes)
        (subst (λ n. reserved s + rounded_up bytes ≤ n) (sym has.is_store) le))

    -- ---- a release that starts: as if it had started without a frame

    pub k : (index : ℕ) → by_priority s ≡ Some (TurnOf index) → IsChosen s index
    k index turn = is_chosen s index (chosen_of s index turn)

    module _ (index : ℕ) (turn : by_priority s ≡ Some (TurnOf index)) (row : HandlerRow) where
      abbrev without_frames : Activity
      without_frames = record { frames = []; areas = []; priority = row.priority }

      abbrev t : State
      t = with_activity s (ReleaseAt index) without_frames

      module _ (waits : (k index turn).release.status ≡ Waits) (is_row : handler_row s.registry (k index turn).release.handler ≡ Some row) where
        moves : ReleaseMoves (code_of forest) (Unit {0}) s index (k index turn).release.handler row.priority [] t
        moves =
            moves_on (code_of forest) (Unit {0}) s index (k index turn).release (k index turn).is_there row.priority [] s
            (record {
              phase = refl;
              activity = refl;
              outcome = refl;
              registry = refl;
              releases = refl;
              objects = ceilings_same s.objects;
            })
            without_frames (λ own rises. rises) (λ most low own rises below. below) (λ condition guards. guards)
            (areas_stay s.areas [])

        order_then : IsInOrder t
        order_then =
            order_kept (code_of forest) (Unit {0}) s t index (k index turn).release.handler row.priority [] order exec
            (latest_waits s order index (k index turn) row waits is_row) moves

        right : PrioritiesAreRight (code_of forest) s
        right =
            right_priorities (code_of forest) plan
            (calls_by_types (code_of forest) facts).spares reached

        right_then : PrioritiesAreRight (code_of forest) t
        unfolding with_activity
        right_then =
            record { handlers = right.handlers; rows = right.rows; classes = right.classes; ceilings = right.ceilings }

        few_then : started_count t ≤ 28
        few_then = few_started (code_of forest) t order_then right_then

        fits_then : (q : ℕ) (b : Activity) → activity_of t (ReleaseAt q) ≡ Some b →
            total (area_bytes t) (opened_by b.frames) ≤ each
        unfolding with_activity
        fits_then q b e =
            elim (jobs_with_activity s (ReleaseAt index) without_frames (ReleaseAt q) b e) as
            (λ z. total (area_bytes t) (opened_by b.frames) ≤ each) [
              | inl same ↦ subst (λ (x : Activity). total (area_bytes t) (opened_by x.frames) ≤ each) same (omega arith)
              | inr was ↦ all_fits q b was
            ]

        begun : Release
        begun = record (k index turn).release { status = Started without_frames }

        there_then : slice_get t.releases index ≡ Some begun
        unfolding with_activity begun
        there_then =
            changed_at (λ (r : Release). record r { status = Started without_frames }) index s.releases (k index turn).release (k index turn).is_there

        active_then : activity_in begun.status ≡ Some without_frames
        unfolding begun activity_in
        active_then = refl

        starting_reserved : reserved s + rounded_up row.bytes ≤ (immortal_bytes p + mission_bytes p) + each * started_count t
        unfolding with_activity reserved
        starting_reserved =
            (let most = fits_class (k index turn).release.handler row is_row in
            let fits : total (area_bytes t) (opened_by without_frames.frames) + rounded_up row.bytes ≤ each =
            omega (arith, most) in
            let all_reserved = reserved_with t each (rounded_up row.bytes) order_then.opened index begun without_frames
            there_then active_then fits (λ q x c there is. fits_then q c (active_of t.releases t refl q x c there is)) in
            let base = base_fits forest a plan.store s i has exec in
            omega (arith, all_reserved, base))

        pub starting_has_store : store_needed p rooms ≤ plan.store → has_store_for s row.bytes ≡ true
        unfolding has_store_for
        starting_has_store suffices =
            (let le : reserved s + rounded_up row.bytes ≤ plan.store =
            enough (reserved s + rounded_up row.bytes) (started_count t) few_then starting_reserved suffices in
            store_has s.store (reserved s) (rounded_up row.bytes)
            (subst (λ n. reserved s + rounded_up row.bytes ≤ n) (sym has.is_store) le))

-- What an operation of a release does to the order: it leaves the others alone, and it goes on with other frames or
-- comes to its end.
use Rattle.std.proofs.Common.{◌≡◌, ℕ, ◌≤◌, List, [], ◌∷◌, ◌++◌, ◌⊎◌, inl, inr, Option, Some, None, refl, sym, ap, ◌∙◌, subst}
use Rattle.std.specs.Prelude.{slice_get, unwrap_or, option_to_list}
use Rattle.scj_rules.specs.declared.views.Body.{Body}
use Rattle.scj_base.specs.declared.values.Value.{Value}
use Rattle.scj_model.specs.Code.{Code}
use Rattle.scj_model.specs.State.{Object, Frame, Activity, Started, Ended, Release, ReleaseAt, State, with_activity, with_status, changed}
use Rattle.scj_model.specs.Effects.{monitor_of}
use Rattle.scj_model.specs.Apply.{returned}
use Rattle.priority_laws.specs.Started.{started_as, started_at}
use Rattle.priority_laws.specs.Rising.{Rises, Guards, HasCeilingBetween, priority_under}
use Rattle.priority_laws.specs.Nesting.{opened_by}
use Rattle.accepted_laws.proofs.Lists.{get_left}
use Rattle.priority_laws.proofs.AreaLists.{number_cases, get_changed, get_changed_other}
use Rattle.priority_laws.proofs.AreaMoves.{AreasMove}
use Rattle.priority_laws.proofs.StartedReleases.{started_now, ended_now, started_other}
use Rattle.priority_laws.proofs.Still.{IsStill}

-- ---- objects keep their ceilings

pub record KeepsCeilings (before after : List Object) : Type 0 where
  pub is : (r : ℕ) (o : Object) → slice_get before r ≡ Some o →
      (q : Object) × (slice_get after r ≡ Some q) × (q.ceiling ≡ o.ceiling)

pub ceilings_same : (objects : List Object) → KeepsCeilings objects objects
ceilings_same objects = record { is = λ r o e. (o, e, refl) }

pub ceilings_more : (objects more : List Object) → KeepsCeilings objects (objects ++ more)
ceilings_more objects more = record { is = λ r o e. (o, get_left objects more r o e, refl) }

pub ceilings_changed : (f : Object → Object) (index : ℕ) (objects : List Object) →
    ((o : Object) → (f o).ceiling ≡ o.ceiling) → KeepsCeilings objects (changed f index objects)
ceilings_changed f index objects same = record { is = λ r o e. go r o e (number_cases index r) }
  where
    go : (r : ℕ) (o : Object) → slice_get objects r ≡ Some o → (index ≡ r) ⊎ (index ≡ r → ⊥) →
        (q : Object) × (slice_get (changed f index objects) r ≡ Some q) × (q.ceiling ≡ o.ceiling)
    go r o e (inl h) = (
      f o,
      subst (λ i. slice_get (changed f index objects) i ≡ Some (f o)) h
          (get_changed f index objects o (ap (slice_get objects) h ∙ e)),
      same o,
    )
    go r o e (inr n) = (o, get_changed_other f index r objects n ∙ e, refl)

pub ceilings_subst : (before after other : List Object) → KeepsCeilings before after → other ≡ after →
    KeepsCeilings before other
ceilings_subst before after other k e = subst (λ objects. KeepsCeilings before objects) (sym e) k

-- a monitor stays guarded
pub guard_kept : (before after : List Object) → KeepsCeilings before after → (r low high : ℕ) →
    HasCeilingBetween before r low high → HasCeilingBetween after r low high
guard_kept before after k r low high g =
    let q : (q : Object) × (slice_get after r ≡ Some q) × (q.ceiling ≡ g.object.ceiling) = k.is r g.object g.is_there in
    record {
      object = q.0;
      is_there = q.1;
      from = subst (λ n. low ≤ n) (sym q.2) g.from;
      upto = subst (λ n. n ≤ high) (sym q.2) g.upto;
    }

pub guards_kept : (code : Code) (before after : List Object) → KeepsCeilings before after →
    (priority : ℕ) (fs : List Frame) → Guards code before priority fs → Guards code after priority fs
guards_kept code before after k priority [] g = tt
guards_kept code before after k priority (f ∷ fs) g = (
  λ r m. guard_kept before after k r _ _ (g.0 r m),
  guards_kept code before after k (priority_under f priority) fs g.1,
)

-- ---- a frame that stands where another stood

pub record StandsAs (f h : Frame) : Type 0 where
  pub body : h.body ≡ f.body
  pub this : h.this ≡ f.this
  pub saved : h.saved ≡ f.saved
  pub opened : h.opened ≡ f.opened

pub monitor_same : (code : Code) (f h : Frame) → StandsAs f h → monitor_of code h ≡ monitor_of code f
unfolding monitor_of
monitor_same code f h s =
    ap (λ (b : Body). monitor_of code (record f { body = b; this = h.this })) s.body
    ∙ ap (λ (t : Option ℕ). monitor_of code (record f { this = t })) s.this

pub rises_same : (f h : Frame) (fs : List Frame) (own priority : ℕ) → StandsAs f h → Rises own priority (f ∷ fs) →
    Rises own priority (h ∷ fs)
rises_same f h fs own priority s r =
    subst (λ (o : Option ℕ). (unwrap_or o priority ≤ priority) × Rises own (unwrap_or o priority) fs) (sym s.saved) r

pub guards_same : (code : Code) (objects : List Object) (f h : Frame) (fs : List Frame) (priority : ℕ) → StandsAs f h →
    Guards code objects priority (f ∷ fs) → Guards code objects priority (h ∷ fs)
guards_same code objects f h fs priority s g =
    subst
    (λ (o : Option ℕ). ((r : ℕ) → monitor_of code h ≡ Some r →
    HasCeilingBetween objects r (unwrap_or o priority) priority) × Guards code objects (unwrap_or o priority) fs)
    (sym s.saved) (λ r m. g.0 r (sym (monitor_same code f h s) ∙ m), g.1)

pub opened_same : (f h : Frame) (fs : List Frame) → StandsAs f h → opened_by (h ∷ fs) ≡ opened_by (f ∷ fs)
opened_same f h fs s = ap (λ (o : Option ℕ). option_to_list o ++ opened_by fs) s.opened

-- the frame below that gets a value stands where it stood
pub rises_returned : (value : Option Value) (fs : List Frame) (own priority : ℕ) → Rises own priority fs →
    Rises own priority (returned value fs)
unfolding returned
rises_returned None fs own priority r = r
rises_returned (Some value) [] own priority r = r
rises_returned (Some value) (f ∷ fs) own priority r = r

pub guards_returned : (code : Code) (objects : List Object) (value : Option Value) (fs : List Frame) (priority : ℕ) →
    Guards code objects priority fs → Guards code objects priority (returned value fs)
unfolding returned monitor_of
guards_returned code objects None fs priority g = g
guards_returned code objects (Some value) [] priority g = g
guards_returned code objects (Some value) (f ∷ fs) priority g = g

pub opened_returned : (value : Option Value) (fs : List Frame) → opened_by (returned value fs) ≡ opened_by fs
unfolding returned
opened_returned None fs = refl
opened_returned (Some value) [] = refl
opened_returned (Some value) (f ∷ fs) = refl

-- ---- what an operation does. Monitors stay guarded where a condition holds

pub record LeavesOthers (s t : State) (p : ℕ) : Type 0 where
  pub phase : t.phase ≡ s.phase
  pub activity : t.activity ≡ s.activity
  pub outcome : t.outcome ≡ s.outcome
  pub registry : t.registry ≡ s.registry
  pub objects : KeepsCeilings s.objects t.objects
  pub others : (q : ℕ) → (p ≡ q → ⊥) → started_at t.releases q ≡ started_at s.releases q

-- no ceiling is above a number
pub record AreAtMost (most : ℕ) (objects : List Object) : Type 0 where
  pub is : (r : ℕ) (o : Object) → slice_get objects r ≡ Some o → o.ceiling ≤ most

pub record GoesOn (code : Code) (condition : Type 0) (s t : State) (p handler priority : ℕ)
    (old : List Frame) : Type 0 where
  pub after : Activity
  pub is_there : started_at t.releases p ≡ Some (started_as handler after)
  pub rises : (own : ℕ) → Rises own priority old → Rises own after.priority after.frames
  pub bounded : (most : ℕ) → AreAtMost most s.objects → (own : ℕ) → Rises own priority old → priority ≤ most →
      after.priority ≤ most
  pub guards : condition → Guards code s.objects priority old → Guards code t.objects after.priority after.frames
  pub areas : AreasMove s.areas t.areas (opened_by old) (opened_by after.frames)

pub record Ends (s t : State) (p : ℕ) (old : List Frame) : Type 0 where
  pub is_gone : started_at t.releases p ≡ None
  pub areas : AreasMove s.areas t.areas (opened_by old) []

pub record ReleaseMoves (code : Code) (condition : Type 0) (s : State) (p handler priority : ℕ) (old : List Frame)
    (t : State) : Type 0 where
  pub others : LeavesOthers s t p
  pub own : GoesOn code condition s t p handler priority old ⊎ Ends s t p old

-- memory alone is another one
pub record IsNear (s u : State) : Type 0 where
  pub phase : u.phase ≡ s.phase
  pub activity : u.activity ≡ s.activity
  pub outcome : u.outcome ≡ s.outcome
  pub registry : u.registry ≡ s.registry
  pub releases : u.releases ≡ s.releases
  pub objects : KeepsCeilings s.objects u.objects

-- ---- two ways to make one: it goes on, it ends

module _ (code : Code) (condition : Type 0) (s : State) (p : ℕ) (r : Release) (there : slice_get s.releases p ≡ Some r)
    (priority : ℕ) (old : List Frame) where
  pub moves_on : (u : State) → IsNear s u → (after : Activity)
      → ((own : ℕ) → Rises own priority old → Rises own after.priority after.frames)
      → ((most : ℕ) → AreAtMost most s.objects → (own : ℕ) → Rises own priority old → priority ≤ most →
      after.priority ≤ most)
      → (condition → Guards code s.objects priority old → Guards code u.objects after.priority after.frames)
      → AreasMove s.areas u.areas (opened_by old) (opened_by after.frames)
      → ReleaseMoves code condition s p r.handler priority old (with_activity u (ReleaseAt p) after)
  unfolding with_activity
  moves_on u near after rises bounded guards areas =
      record {
        others = record {
          phase = near.phase;
          activity = near.activity;
          outcome = near.outcome;
          registry = near.registry;
          objects = near.objects;
          others = λ q n. started_other u.releases p q (Started after) n ∙ ap (λ rs. started_at rs q) near.releases;
        };
        own = inl (record {
          after = after;
          is_there = started_now u.releases p r after (ap (λ rs. slice_get rs p) near.releases ∙ there);
          rises = rises;
          bounded = bounded;
          guards = guards;
          areas = areas;
        });
      }

  pub moves_out : (u : State) → IsNear s u → AreasMove s.areas u.areas (opened_by old) [] →
      ReleaseMoves code condition s p r.handler priority old (with_status u p Ended)
  moves_out u near areas =
      record {
        others = record {
          phase = near.phase;
          activity = near.activity;
          outcome = near.outcome;
          registry = near.registry;
          objects = near.objects;
          others = λ q n. started_other u.releases p q Ended n ∙ ap (λ rs. started_at rs q) near.releases;
        };
        own = inr (record {
          is_gone = ended_now u.releases p r (ap (λ rs. slice_get rs p) near.releases ∙ there);
          areas = areas;
        });
      }

  pub moves_still : (t u : State) → ReleaseMoves code condition s p r.handler priority old t → IsStill t u →
      ReleaseMoves code condition s p r.handler priority old u
  moves_still t u m k =
      record {
        others = record {
          phase = k.phase ∙ m.others.phase;
          activity = k.activity ∙ m.others.activity;
          outcome = k.outcome ∙ m.others.outcome;
          registry = k.registry ∙ m.others.registry;
          objects = ceilings_subst s.objects t.objects u.objects m.others.objects k.objects;
          others = λ q n. k.started q ∙ m.others.others q n;
        };
        own = go m.own;
      }
    where
      go : GoesOn code condition s t p r.handler priority old ⊎ Ends s t p old →
          GoesOn code condition s u p r.handler priority old ⊎ Ends s u p old
      go (inl g) =
          inl (record {
            after = g.after;
            is_there = k.started p ∙ g.is_there;
            rises = g.rises;
            bounded = g.bounded;
            guards = λ c x. subst (λ objects. Guards code objects g.after.priority g.after.frames) (sym k.objects)
                (g.guards c x);
            areas = subst (λ areas. AreasMove s.areas areas (opened_by old) (opened_by g.after.frames))
                (sym k.areas) g.areas;
          })
      go (inr e) =
          inr (record {
            is_gone = k.started p ∙ e.is_gone;
            areas = subst (λ areas. AreasMove s.areas areas (opened_by old) []) (sym k.areas) e.areas;
          })

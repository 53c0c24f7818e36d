-- The frames of a release: each above another one runs a body that a node in the lower one's body may run, and the area
-- that it opened has the size that stands there; the lowest one runs handleAsyncEvent, in an area of the row's storage.
use Rattle.std.specs.Prelude.{Option, Some, None, Contains, slice_get}
use Rattle.std.proofs.Common.{◌≡◌, ◌⊎◌, ℕ, ◌≤◌, List, [], ◌∷◌, inl, inr, sym, ap, subst, arith}
use Rattle.scj_base.specs.declared.values.Value.{Value}
use Rattle.scj_tree.specs.declared.nodes.Node.{Node}
use Rattle.scj_rules.specs.declared.views.Body.{Body}
use Rattle.scj_rules.specs.Bodies.{number_literal}
use Rattle.scj_rules.specs.Definitions.{read}
use Rattle.scj_model.specs.declared.handlers.HandlerRow.{HandlerRow}
use Rattle.scj_model.specs.Code.{Code, binding}
use Rattle.scj_model.specs.State.{MemoryArea, Frame, State, area_at}
use Rattle.scj_model.specs.Memory.{rounded_up}
use Rattle.scj_model.specs.Apply.{returned}
use Rattle.frame_sound.specs.EffectsFine.{IsSame}
use Rattle.memory_needs.specs.Reach.{IsInBody, handler_body}
use Rattle.memory_needs.specs.Room.{entered_with}
use Rattle.memory_needs.specs.Targets.{targets}

-- the area that was opened, if one was, takes no more of the store
pub record Takes (s : State) (opened : Option ℕ) (bytes : ℕ) : Type 0 where
  pub each : (a : ℕ) → opened ≡ Some a →
      (x : MemoryArea) × (area_at s a ≡ Some x) × (rounded_up x.bytes ≤ bytes)

-- a private memory of the size that stands at the node
pub record HasSize (code : Code) (s : State) (id : ℕ) (node : Node) (opened : Option ℕ) : Type 0 where
  pub size : ℕ
  pub asked : entered_with (binding code id) node ≡ Some size
  pub takes : (n : ℕ) → read code.program.nodes number_literal size ≡ Some n → Takes s opened (rounded_up n)

-- a node in the lower body may run the upper one
pub record Link (code : Code) (s : State) (body target : Body) (opened : Option ℕ) : Type 0 where
  pub id : ℕ
  pub node : Node
  pub is_in : IsInBody code id body
  pub is : slice_get code.program.nodes id ≡ Some node
  pub is_target : Contains (targets code id) target
  pub opens : (opened ≡ None) ⊎ HasSize code s id node opened

pub record Lowest (code : Code) (s : State) (row : HandlerRow) (body : Body) (opened : Option ℕ) : Type 0 where
  pub is : handler_body code row.class ≡ Some body
  pub takes : Takes s opened (rounded_up row.bytes)

abbrev pub StandsOn : Code → State → HandlerRow → Body → Option ℕ → List Frame → Type 0
StandsOn code s row body opened [] = Lowest code s row body opened
StandsOn code s row body opened (f ∷ fs) = Link code s f.body body opened

abbrev pub Chain : Code → State → HandlerRow → List Frame → Type 0
Chain code s row [] = Unit {0}
Chain code s row (f ∷ fs) = StandsOn code s row f.body f.opened fs × Chain code s row fs

-- ---- areas stay as large as they were

abbrev pub AreasStay : State → State → Type 0
AreasStay s t =
    (a : ℕ) (x : MemoryArea) → area_at s a ≡ Some x → (y : MemoryArea) × (area_at t a ≡ Some y) × (y.bytes ≡ x.bytes)

module _ (code : Code) (s t : State) (stay : AreasStay s t) where
  takes_stays : (opened : Option ℕ) (bytes : ℕ) → Takes s opened bytes → Takes t opened bytes
  takes_stays opened bytes h = record {
    each = λ a e. (let x = h.each a e in let y = stay a x.0 x.1 in
        let same = ap (λ n. rounded_up n) y.2 in let le = x.2 in (y.0, y.1, omega (arith, same, le)));
  }

  link_stays : (body target : Body) (opened : Option ℕ) → Link code s body target opened →
      Link code t body target opened
  link_stays body target opened h = record {
    id = h.id;
    node = h.node;
    is_in = h.is_in;
    is = h.is;
    is_target = h.is_target;
    opens = of h.opens;
  }
    where
      of : (opened ≡ None) ⊎ HasSize code s h.id h.node opened → (opened ≡ None) ⊎ HasSize code t h.id h.node opened
      of (inl none) = inl none
      of (inr k) = inr (record {
        size = k.size;
        asked = k.asked;
        takes = λ n e. takes_stays opened (rounded_up n) (k.takes n e);
      })

  stands_stays : (row : HandlerRow) (body : Body) (opened : Option ℕ) (fs : List Frame) →
      StandsOn code s row body opened fs → StandsOn code t row body opened fs
  stands_stays row body opened [] h =
      record { is = h.is; takes = takes_stays opened (rounded_up row.bytes) h.takes }
  stands_stays row body opened (f ∷ fs) h = link_stays f.body body opened h

  pub chain_stays : (row : HandlerRow) (fs : List Frame) → Chain code s row fs → Chain code t row fs
  chain_stays row [] h = tt
  chain_stays row (f ∷ fs) h = (stands_stays row f.body f.opened fs h.0, chain_stays row fs h.1)

-- ---- other frames

module _ (code : Code) (s : State) (row : HandlerRow) where
  pub chain_goes : (f h : Frame) (below : List Frame) → IsSame f h → Chain code s row (f ∷ below) →
      Chain code s row (h ∷ below)
  chain_goes f h below same chain = (
    subst (λ (b : Body). StandsOn code s row b h.opened below) (sym same.body)
        (subst (λ (o : Option ℕ). StandsOn code s row f.body o below) (sym same.opened) chain.0),
    chain.1,
  )

  pub chain_runs : (f h g : Frame) (below : List Frame) → IsSame f h → Link code s f.body g.body g.opened →
      Chain code s row (f ∷ below) → Chain code s row (g ∷ h ∷ below)
  chain_runs f h g below same link chain = (
    subst (λ (b : Body). Link code s b g.body g.opened) (sym same.body) link,
    chain_goes f h below same chain,
  )

  pub chain_returned : (value : Option Value) (fs : List Frame) → Chain code s row fs →
      Chain code s row (returned value fs)
  unfolding returned
  chain_returned None fs h = h
  chain_returned (Some v) [] h = h
  chain_returned (Some v) (f ∷ fs) h = h

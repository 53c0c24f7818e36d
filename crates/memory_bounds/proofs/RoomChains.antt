-- What the frames of a release have open fits its storage and the Room of handleAsyncEvent, where no cause is shown of its
-- class.
use Rattle.std.specs.Prelude.{Option, Some, None, Contains, option_to_list, map, slice_get}
use Rattle.std.proofs.Common.{◌≡◌, ◌⊎◌, ℕ, ◌+◌, ◌≤◌, List, [], ◌∷◌, ◌++◌, inl, inr, refl, sym, ◌∙◌, ap, subst, arith}
use Rattle.std.proofs.lemmas.List.Sums.{sum_by-cons}
use Rattle.scj_tree.specs.declared.nodes.Node.{Node}
use Rattle.scj_tree.specs.declared.nodes.Node.TheVariants.{NewArray}
use Rattle.scj_tree.specs.Forest.{ChildrenFirst}
use Rattle.scj_rules.specs.declared.typing.Binding.{Binding}
use Rattle.scj_rules.specs.declared.typing.Binding.TheVariants.{Builtin}
use Rattle.scj_rules.specs.declared.views.Body.{Body}
use Rattle.scj_rules.specs.Bodies.{number_literal}
use Rattle.scj_rules.specs.Definitions.{read}
use Rattle.scj_rules.specs.Words.{◌>>=◌}
use Rattle.accepted_laws.proofs.Tools.{some_inj}
use Rattle.scj_model.specs.declared.handlers.HandlerRow.{HandlerRow}
use Rattle.scj_model.specs.Code.{Code, binding, position_of_node}
use Rattle.scj_model.specs.State.{MemoryArea, Frame, State}
use Rattle.scj_model.specs.Memory.{rounded_up}
use Rattle.priority_laws.specs.Nesting.{opened_by}
use Rattle.memory_needs.specs.declared.answers.NoBound.{NoBound}
use Rattle.memory_needs.specs.declared.answers.NoBound.TheVariants.{NotLiteral}
use Rattle.memory_needs.specs.Causes.{IsNowhere, Shows, number_asked, of_node}
use Rattle.memory_needs.specs.Need.{Table}
use Rattle.memory_needs.specs.Reach.{IsInBody, Reaches, ReachesNode, begins, goes_on, handler_body}
use Rattle.memory_needs.specs.Room.{HasRoom, entered_with, own_room}
use Rattle.memory_needs.specs.Rows.{IsRoom}
use Rattle.memory_needs.specs.Targets.{targets}
use Rattle.memory_bounds.proofs.Chains.{Chain, HasSize, Link, Lowest, Takes}
use Rattle.memory_bounds.proofs.ChainSteps.{EntersIn}
use Rattle.memory_bounds.proofs.OpenBytes.{total}
use Rattle.memory_bounds.proofs.Reserved.{area_bytes}
use Rattle.memory_bounds.proofs.Rooms.{room_left}

-- what is asked to be a number where memory is entered
asks : (code : Code) (id size : ℕ) (node : Node) → entered_with (binding code id) node ≡ Some size →
    number_asked code id node ≡ Some size
unfolding number_asked entered_with
asks code id size (NewArray position element count) e = absurd (none (binding code id) e)
  where
    none : (b : Binding) → entered_with b (NewArray position element count) ≡ Some size → ⊥
    none (Builtin t) k = cc (k)
    none _ k = cc (k)
asks code id size node e = e

-- the bytes of an area that was opened, in front of others
module _ (s : State) where
  with_opened : (o : Option ℕ) (xs : List ℕ) (bytes : ℕ) → Takes s o bytes →
      total (area_bytes s) (option_to_list o ++ xs) ≤ bytes + total (area_bytes s) xs
  with_opened None xs bytes h = omega arith
  with_opened (Some a) xs bytes h =
      (let x = h.each a refl in
      let first : total (area_bytes s) (a ∷ xs) ≡ area_bytes s a + total (area_bytes s) xs =
      sum_by-cons (λ m. m) (area_bytes s a) (map (area_bytes s) xs) in
      let same : area_bytes s a ≡ rounded_up x.0.bytes =
      ap (λ (o : Option MemoryArea). elim o as (λ z. ℕ) [ None ↦ 0 | Some y ↦ rounded_up y.bytes ]) x.1 in
      let le = x.2 in
      omega (arith, first, same, le))

module _ (code : Code) (children_first : ChildrenFirst 0 code.program.nodes) (class : ℕ) (table : Table)
    (none : (cause : NoBound) → IsNowhere (Shows code class table cause)) where
  -- a number stands where a private memory is entered
  record Sized (id size : ℕ) (node : Node) : Type 0 where
    n : ℕ
    is : read code.program.nodes number_literal size ≡ Some n
    room : own_room code id node ≡ rounded_up n

  sized : (id size : ℕ) (node : Node) → ReachesNode code class id node → entered_with (binding code id) node ≡ Some size →
      Sized id size node
  unfolding Shows own_room
  sized id size node reaches asked = of (read code.program.nodes number_literal size) refl
    where
      of : (o : Option ℕ) → read code.program.nodes number_literal size ≡ o → Sized id size node
      of None e =
          absurd (none NotLiteral (position_of_node code size) (record {
            number = size;
            is_asked = of_node id node reaches (asks code id size node asked);
            is_none = e;
            is_position = refl;
          }))
      of (Some n) e = record {
        n = n;
        is = e;
        room = ap (λ (o : Option ℕ). elim o as (λ z. ℕ) [ None ↦ 0 | Some m ↦ rounded_up m ])
            (ap (λ (o : Option ℕ). o >>= read code.program.nodes number_literal) asked ∙ e);
      }

  -- the highest frame, with what it and those below it opened
  pub record Top (s : State) (most : ℕ) (f : Frame) (below : List Frame) : Type 0 where
    pub reaches : Reaches code class f.body
    pub room : ℕ
    pub is : HasRoom code f.body room
    pub fits : total (area_bytes s) (opened_by (f ∷ below)) + room ≤ most

  reached_there : (body : Body) → Reaches code class body → (id : ℕ) (node : Node) → IsInBody code id body →
      slice_get code.program.nodes id ≡ Some node → ReachesNode code class id node
  reached_there body reaches id node inside is =
      record { body = body; reached = reaches; is_in = inside; is = is }

  -- one more body, in an area of so many bytes
  pub record NextRoom (body target : Body) (bytes n : ℕ) : Type 0 where
    pub reaches : Reaches code class target
    pub room : ℕ
    pub is : HasRoom code target room
    pub fits : bytes + room ≤ n

  next_room : (body target : Body) (n id : ℕ) (node : Node) → Reaches code class body → HasRoom code body n →
      IsInBody code id body → slice_get code.program.nodes id ≡ Some node → Contains (targets code id) target →
      NextRoom body target (own_room code id node) n
  next_room body target n id node reaches room inside is c =
      (let left = room_left code children_first body target n id node room inside is c in
      record {
        reaches = goes_on body target reaches (record { id = id; is_in = inside; is_target = c });
        room = left.room;
        is = left.is;
        fits = left.fits;
      })

  -- a frame that enters a memory has room for it
  pub entering : (body target : Body) (bytes n : ℕ) → Reaches code class body → HasRoom code body n →
      EntersIn code body target bytes → NextRoom body target (rounded_up bytes) n
  entering body target bytes n reaches room enters =
      (let r = enters.runs in
      let next = next_room body target n r.id r.node reaches room r.is_in r.is r.is_target in
      let k = sized r.id enters.size r.node (reached_there body reaches r.id r.node r.is_in r.is) enters.asked in
      let same = ap (λ m. rounded_up m) (enters.sized k.n k.is) in
      let own = k.room in
      let le = next.fits in
      record { reaches = next.reaches; room = next.room; is = next.is; fits = omega (arith, same, own, le) })

  module _ (s : State) (row : HandlerRow) (of_class : row.class ≡ class) (rooms : ℕ) (room : IsRoom code class rooms) where
    abbrev most : ℕ
    most = rounded_up row.bytes + rooms

    lowest_fits : (f : Frame) → Lowest code s row f.body f.opened → Top s most f []
    unfolding handler_body
    lowest_fits f low =
        (let same : handler_body code class ≡ Some f.body = ap (handler_body code) (sym of_class) ∙ low.is in
        let one : room.body ≡ f.body = some_inj room.body f.body (sym room.is_body ∙ same) in
        let t = with_opened s f.opened [] (rounded_up row.bytes) low.takes in
        record {
          reaches = begins f.body same;
          room = rooms;
          is = subst (λ (b : Body). HasRoom code b rooms) one room.is;
          fits = omega (arith, t);
        })

    on_top : (g f : Frame) (below : List Frame) → Link code s f.body g.body g.opened → Top s most f below →
        Top s most g (f ∷ below)
    on_top g f below link top =
        (let next = next_room f.body g.body top.room link.id link.node top.reaches top.is link.is_in link.is link.is_target in
        let opened = by link.opens in
        let t = with_opened s g.opened (opened_by (f ∷ below)) (own_room code link.id link.node) opened in
        let a = next.fits in
        let b = top.fits in
        record { reaches = next.reaches; room = next.room; is = next.is; fits = omega (arith, t, a, b) })
      where
        by : (g.opened ≡ None) ⊎ HasSize code s link.id link.node g.opened →
            Takes s g.opened (own_room code link.id link.node)
        by (inl unopened) = record { each = λ a e. absurd (cc (e, unopened)) }
        by (inr h) =
            (let k = sized link.id h.size link.node
            (reached_there f.body top.reaches link.id link.node link.is_in link.is) h.asked in
            subst (Takes s g.opened) (sym k.room) (h.takes k.n k.is))

    pub top_fits : (f : Frame) (below : List Frame) → Chain code s row (f ∷ below) → Top s most f below
    top_fits f [] chain = lowest_fits f chain.0
    top_fits g (f ∷ below) chain = on_top g f below chain.0 (top_fits f below chain.1)

    -- so what all of them opened fits
    pub all_fit : (frames : List Frame) → Chain code s row frames → total (area_bytes s) (opened_by frames) ≤ most
    all_fit [] chain = omega arith
    all_fit (f ∷ below) chain = (let t = (top_fits f below chain).fits in omega (arith, t))

-- Operands that are taken one by one, as the definitions take them.
use Rattle.std.proofs.Common.{◌≡◌, ℕ, zero, suc, ◌<◌, List, [], ◌∷◌, ◌++◌, length, reverse, refl, ap, sym, ◌∙◌, append-nil, append_assoc, arith, Option, Some, None, Result, Ok, Err, IfOk, IfSome, IfNone}
use Rattle.std.proofs.lemmas.List.{reverse-append, reverse-reverse, length-reverse}
use Rattle.scj_base.specs.declared.values.Value.{Value}
use Rattle.scj_model.specs.State.{Frame}
use Rattle.scj_model.specs.Effects.{Effect, Stuck, pop_all, pop_from}
use Rattle.op_list.specs.Listed.{Listing}
use Rattle.job_frames.specs.Frames.{StoredFrame, frame_of}

-- the operands in front are taken, of which the first is the last in order
taken_from : (front below taken : List Value) (f : Frame) (next : List Value → Frame → Effect) →
    pop_from (length front) (record f { operands = front ++ below }) taken next
    ≡ next (reverse front ++ taken) (record f { operands = below })
taken_from [] below taken f next = refl
taken_from (value ∷ front) below taken f next =
    taken_from front below (value ∷ taken) f next
    ∙ ap (λ (values : List Value). next values (record f { operands = below }))
    (sym (append_assoc (reverse front) (value ∷ []) taken)
    ∙ ap (λ (values : List Value). values ++ taken) (sym (reverse-append (value ∷ []) front)))

too_few_from : (count : ℕ) (operands taken : List Value) (f : Frame) (next : List Value → Frame → Effect) →
    length operands < count → pop_from count (record f { operands = operands }) taken next ≡ Stuck
too_few_from zero operands taken f next h = absurd (omega (arith, h))
too_few_from (suc count) [] taken f next h = refl
too_few_from (suc count) (value ∷ operands) taken f next h =
    too_few_from count operands (value ∷ taken) f next (omega (arith, h))

pub all_popped : (code : Listing) (f : StoredFrame) (count : ℕ) (values left : List Value)
    (next : List Value → Frame → Effect) → f.operands ≡ reverse values ++ left → length values ≡ count →
    pop_all count (frame_of code f) next ≡ next values (frame_of code (record f { operands = left }))
all_popped code f count values left next e h =
    ap (λ (operands : List Value). pop_from count (record (frame_of code f) { operands = operands }) [] next) e
    ∙ ap (λ (n : ℕ). pop_from n (record (frame_of code f) { operands = reverse values ++ left }) [] next)
    (sym h ∙ sym (length-reverse values))
    ∙ taken_from (reverse values) left [] (frame_of code f) next
    ∙ ap (λ (taken : List Value). next taken (record (frame_of code f) { operands = left }))
    (append-nil (reverse (reverse values)) ∙ reverse-reverse values)

pub too_few : (code : Listing) (f : StoredFrame) (count : ℕ) (next : List Value → Frame → Effect) →
    length f.operands < count → pop_all count (frame_of code f) next ≡ Stuck
too_few code f count next h = too_few_from count f.operands [] (frame_of code f) next h

-- the operands are taken, or there are too few
pub popped : {V E : Type 0} (items : V → List Value) (code : Listing) (f : StoredFrame) (count : ℕ) (left : List Value)
    (next : List Value → Frame → Effect) (result : Result (Option V) E) →
    IfOk result (λ taken. IfSome taken (λ values. f.operands ≡ reverse (items values) ++ left)) →
    IfOk result (λ taken. IfSome taken (λ values. length (items values) ≡ count)) →
    IfOk result (λ taken. IfNone taken (length f.operands < count)) →
    IfOk result (λ taken. pop_all count (frame_of code f) next
    ≡ elim taken [ None ↦ Stuck | Some values ↦ next (items values) (frame_of code (record f { operands = left })) ])
popped items code f count left next (Ok (Some values)) e h few = all_popped code f count (items values) left next e h
popped items code f count left next (Ok None) e h few = too_few code f count next few
popped items code f count left next (Err error) e h few = tt

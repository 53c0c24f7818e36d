-- Lines put one after the other, up to where putting breaks off.
use Rattle.std.specs.List.{flat_map}
use Rattle.std.proofs.Common.{◌≡◌, ℕ, ◌+◌, ◌<◌, List, ◌++◌, length, get_or, take, drop, Option, ap, sym, ◌∙◌, subst, append_assoc}
use Rattle.std.proofs.lemmas.List.{take-append-drop, drop_more}
use Rattle.std.proofs.lemmas.List.Concat.{flat_map-append}
use Rattle.scj_io.specs.Puts.{sink_run, PutWhole, PutFront}
use Rattle.scj_io.proofs.PutLaws.{PutWhole-then-front, PutFront-more}
use Rattle.plain_machine.specs.Printing.{BreaksOffIn}
use Rattle.plain_machine.specs.Runs.{PutPart}
use Rattle.plain_machine.specs.declared.runs.RunError.{RunError}
use Rattle.plain_machine.specs.declared.runs.RunError.TheVariants.{Memory, Failed}
use Rattle.plain_machine.proofs.PartLaws.{PutPart-more, PutPart-then}

-- what stands before a place, at it and behind it
parted : {X : Type 0} (f : X → List ℕ) (xs : List X) (k : ℕ) (d : X) → k < length xs →
    flat_map f xs ≡ (flat_map f (take k xs) ++ f (get_or xs k d)) ++ flat_map f (drop (k + 1) xs)
parted f xs k d within =
    ap (flat_map f) (sym (take-append-drop k xs))
    ∙ (flat_map-append f (take k xs) (drop k xs)
    ∙ (ap (λ (ys : List _). flat_map f (take k xs) ++ flat_map f ys) (drop_more xs k d within)
    ∙ sym (append_assoc (flat_map f (take k xs)) (f (get_or xs k d)) (flat_map f (drop (k + 1) xs)))))

-- it breaks off at one of the elements
pub breaks_at : {X : Type 0} (f : X → List ℕ) (xs : List X) (k : ℕ) (d : X) (t u v : Option (List ℕ)) (n m o : ℕ) →
    k < length xs → PutWhole (sink_run t u n m) (flat_map f (take k xs)) → (stop : RunError) →
    BreaksOffIn (f (get_or xs k d)) (sink_run u v m o) stop → BreaksOffIn (flat_map f xs) (sink_run t v n o) stop
breaks_at f xs k d t u v n m o within put Memory part =
    subst (λ (bytes : List ℕ). PutPart (sink_run t v n o) bytes) (sym (parted f xs k d within))
    (PutPart-more (PutPart-then put part) (flat_map f (drop (k + 1) xs)))
breaks_at f xs k d t u v n m o within put Failed failed =
    subst (λ (bytes : List ℕ). PutFront (sink_run t v n o) bytes) (sym (parted f xs k d within))
    (PutFront-more (PutWhole-then-front put failed) (flat_map f (drop (k + 1) xs)))

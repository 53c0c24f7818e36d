use Rattle.std.proofs.Common.{◌≡◌, ℕ, List, Option, Some, None, IsSome, get_or, refl, sym, subst}
use Rattle.raw_words.proofs.RawWords.read.Goals as goal

some_of : {X : Type 0} (o : Option X) → IsSome o → (x : X) × (o ≡ Some x)
some_of (Some x) h = (x, refl)
some_of None h = cc

pub get-requires : goal.get-requires
get-requires c =
    let P : List (Option ℕ) → Type 0 = λ l. IsSome (get_or l c.args.index None) in (
      c.self.invariant.0,
      some_of (get_or c.self.inside.cells.slots c.args.index None) (subst P (sym c.self.view_is)
          c.requires),
    )

-- The names of classes, and classes that a type may name.
use Rattle.std.proofs.Common.{◌≡◌, ℕ, ◌||◌, List, slice_get, Option, arith, option_map}
use Rattle.std.proofs.lemmas.Grind.{common_steps}
use Rattle.scj_base.specs.Bytes.{is_same}
use Rattle.scj_rules.specs.Words.{holds}
use Rattle.scj_rules.specs.Classes.{ClassRow, is_extended, is_implemented}
use Rattle.scj_rules.specs.ClassRules.{is_type_class}
use Rattle.scj_rules.specs.Contexts.{Declarations}

pub type_kind : (p : Declarations) (class : ℕ) → is_type_class p class
    ≡ holds (option_map (λ (row : ClassRow). row.kind) (slice_get p.classes class))
    (λ kind. is_extended kind || is_implemented kind)
type_kind p class = grind (arith, common_steps)

pub name_held : (o : Option ClassRow) (name : List ℕ) (own : Option (List ℕ)) →
    own ≡ option_map (λ (row : ClassRow). row.name) o →
    holds own (λ n. is_same n name) ≡ holds o (λ (row : ClassRow). is_same row.name name)
name_held o name own e = grind (arith, common_steps, e)

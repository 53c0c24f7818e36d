-- Parts as they are kept.
use Rattle.scj_show.specs.declared.parts.Part.{Part}
use Rattle.scj_show.specs.declared.parts.Part.TheVariants as part
use Rattle.scj_show.specs.declared.rows.Row.{Row}
use Rattle.scj_show.specs.declared.rows.Row.TheVariants.{Whole, Bare, Named, Quoted, Word, Sign, Digits}

unfoldable pub part_of : Row → Part
part_of (Whole id) = part.Whole id
part_of (Bare id) = part.Bare id
part_of (Named name) = part.Named name
part_of (Quoted name) = part.Quoted name
part_of (Word word) = part.Word word
part_of (Sign sign) = part.Sign sign
part_of (Digits number) = part.Digits number

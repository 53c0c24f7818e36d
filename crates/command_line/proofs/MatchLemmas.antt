-- What the getters of the matches tell of their rows.
use Rattle.std.proofs.Common.{◌≡◌, option_map}
use Rattle.clap.specs.Words.{Text, all_of, first_of, first_value, matched_of, raw_values, rows_of}
use Rattle.clap.specs.declared.parser.matches.Found.{Found}
use Rattle.clap.proofs.WalkLemmas.{first_value-rows, raw_values-rows}

pub first_text : (f : Found) (id : Text) → first_value f id ≡ first_of id (rows_of f)
first_text f id = first_value-rows f id

pub all_texts : (f : Found) (id : Text) → option_map raw_values (matched_of f id) ≡ all_of id (rows_of f)
all_texts f id = raw_values-rows f id

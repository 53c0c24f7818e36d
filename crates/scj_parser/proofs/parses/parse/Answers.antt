use Rattle.std.proofs.Common.{◌<◌, List, [], ℕ, length, map, ap, arith}
use Rattle.scj_parser.proofs.ParsingLemmas.{forest_after, lexed_ends, lexed_fit}
use Rattle.scj_tree.specs.Forest.{Forest, IsForest, forest_of}
use Rattle.scj_tree.specs.Lexemes.{lexemes_of}
use Rattle.scj_parser.proofs.parses.parse.Goals as goal

pub add_file-requires-clause-fit : goal.add_file-requires-clause-fit
add_file-requires-clause-fit c =
    rw c.items.ensures (lexed_fit c.args.file [] c.args.bytes.now c.args.tokens.now c.requires.lexed)

pub add_file-requires-clause-ends : goal.add_file-requires-clause-ends
add_file-requires-clause-ends c =
    rw c.items.ensures
    (lexed_ends c.args.bytes.now c.args.file [] c.args.bytes.now c.args.tokens.now c.requires.lexed)

pub from_parts-requires : goal.from_parts-requires
from_parts-requires c =
    let files : List (List ℕ) = map (λ f. f.items) c.into_parts-nodes.result.1.items in
    let whole : IsForest (forest_of c.over-nodes.result.all files) =
    rw (c.over-nodes.ensures.all, c.into_parts-nodes.ensures.nodes, c.into_parts-nodes.ensures.files)
    c.into_parts-nodes.ensures.whole in
    let room : length files < 16 =
    omega (
      arith,
      ap length c.into_parts-nodes.ensures.files,
      ap (λ (g : Forest). length g.files) c.replace-before.ensures.value,
      c.requires.next,
      c.requires.few,
    ) in
    rw c.into_all.ensures (forest_after c.over-nodes.result.all c.add_file.new.nodes.all
    (lexemes_of c.args.bytes.now c.items.result.now) files (map (λ f. f.items) c.add_file.new.files.items)
    c.in-Ok.ensures.ok whole room c.in-Ok.ensures.few)

use Rattle.std.proofs.Common.{◌≡◌, ℕ, ◌<◌, List, length, map, get_or, slice_get, Option, Some, option_map, string_bytes, refl, ap, subst, ◌∙◌}
use Rattle.std.proofs.lemmas.List.{length-map}
use Rattle.std.proofs.lemmas.Option.{slice_get_read, slice_get-map}
use Rattle.scj_check.specs.declared.sources.Source.{Source}
use Rattle.scj_check.specs.Texts.{texts_of}
use Rattle.scj_check.proofs.sources.Sources.text.Goals as goal

abbrev pair_of : Source → List ℕ × List ℕ
pair_of s = (string_bytes s.name, s.text.items)

text_at : (items : List Source) (file : ℕ) (item : Source) → file < length (map pair_of items) →
    item ≡ get_or items file item → slice_get (texts_of (map pair_of items)) file ≡ Some item.text.items
text_at items file item within is =
    let inside : file < length items = subst (λ (n : ℕ). file < n) (length-map items pair_of) within in
    let got : slice_get items file ≡ Some item = slice_get_read items (length items) file item refl inside is in
    slice_get-map (λ s. s.1) (map pair_of items) file
    ∙ (ap (λ (o : Option (List ℕ × List ℕ)). option_map (λ s. s.1) o) (slice_get-map pair_of items file)
    ∙ ap (λ (o : Option Source). option_map (λ s. s.1) (option_map pair_of o)) got)

pub returns-clause-value : goal.returns-clause-value
returns-clause-value c =
    rw (← c.self.view_is, c.as_slice.ensures.value)
    (text_at c.self.inside.items.items c.args.file c.index.result.now (rw (← c.self.view_is) at c.requires)
    c.index.ensures)

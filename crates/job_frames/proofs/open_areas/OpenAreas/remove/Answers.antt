use Rattle.std.proofs.Common.{not, ◌==◌, ◌∙◌, ap, sym, rules, reverse}
use Rattle.std.proofs.lemmas.Fn.{filter_same}
use Rattle.job_frames.proofs.Reversed.{filter_reversed}
use Rattle.job_frames.proofs.open_areas.OpenAreas.remove.Goals as goal

pub returns-in-Some : goal.returns-in-Some
returns-in-Some c =
    let kept = filter_same _ (λ b. not (b == c.in-Some.area)) _ (λ x b f' k. search rules) _ _ c.retain.ensures.filtered
    in
    rw (c.in-Some.is, ← c.self.view_is) (
    ap reverse kept ∙ sym (filter_reversed (λ b. not (b == c.in-Some.area)) c.self.inside.items.items)
    )

use Rattle.std.specs.Prelude.{not}
use Rattle.std.proofs.Common.{Bool, ap, sym}
use Rattle.std.proofs.lemmas.Result.{err_from_is_err_and}
use Rattle.scj_model.specs.Apply.{with_first}
use Rattle.region_heap.specs.Contents.{Contents, changing_object, hidden_slots}
use Rattle.region_heap.specs.Refusals.{AllowsHidden, RefusesHidden}
use Rattle.region_heap.specs.Written.{IsChangedIn}
use Rattle.region_heap.proofs.HeapLemmas.{changed_words, counted_changed, few_words}
use Rattle.region_heap.proofs.HiddenFields.{after_hidden, allows_live, hidden_kept, refuses_live}
use Rattle.region_heap.proofs.Live.{are_objects, in_order}
use Rattle.region_heap.proofs.heaps.RegionHeap.set_hidden.Goals as goal

pub set_hidden_in-requires-clause-order : goal.set_hidden_in-requires-clause-order
set_hidden_in-requires-clause-order c = rw c.deref.ensures.value (in_order _ _ _ _ c.self.invariant.0)

pub set_hidden_in-requires-clause-objects : goal.set_hidden_in-requires-clause-objects
set_hidden_in-requires-clause-objects c =
    rw c.deref.ensures.value (are_objects _ _ _ _ c.self.invariant.0 (few_words _ _ _ _ _ _ c.self.invariant.1))

pub invariant_of-self-2 : goal.invariant_of-self-2
invariant_of-self-2 c =
    let done : IsChangedIn c.self.inside.words c.self.inside.objects.items c.args.r (with_first (hidden_slots
    c.args.hidden.now))
    c.set_hidden_in.new.words = rw c.deref.ensures.value at c.in_ok-set_hidden_in.ensures.set in
    let allowed : AllowsHidden c.self.inside.words c.self.inside.objects.items c.args.r c.args.hidden.now =
    rw c.deref.ensures.value at c.in_ok-set_hidden_in.ensures.allows in
    rw (c.then-self-inside.ensures, after_hidden) (
      hidden_kept _ _ _ _ c.self.invariant.0 c.args.r c.args.hidden.now _ done allowed,
      counted_changed _ _ _ _ _ _ _ c.self.invariant.1 c.args.r (with_first (hidden_slots c.args.hidden.now))
          (changed_words _ _ _ _ _ done),
      c.self.invariant.2,
      c.self.invariant.3,
    )

pub returns-in_err-set_hidden_in-clause-refuses : goal.returns-in_err-set_hidden_in-clause-refuses
returns-in_err-set_hidden_in-clause-refuses c =
    let refused : RefusesHidden c.self.inside.words c.self.inside.objects.items c.args.r c.args.hidden.now =
    rw c.deref.ensures.value at c.in_err-set_hidden_in.ensures.refuses in
    let e = ap (λ (b : Bool). not b) (refuses_live _ _ _ _ c.self.invariant.0 c.args.r c.args.hidden.now refused) in
    let p = err_from_is_err_and c.from_residual.result c.from_residual.ensures.1 in
    rw (p.1, ← c.self.view_is) (sym e)

pub returns-clause-set : goal.returns-clause-set
returns-clause-set c =
    rw (c.then-self-inside.ensures, after_hidden)
    (ap (λ (m : Contents). changing_object m c.args.r (with_first (hidden_slots c.args.hidden.now))) c.self.view_is)

pub returns-clause-refuses : goal.returns-clause-refuses
returns-clause-refuses c =
    let allowed : AllowsHidden c.self.inside.words c.self.inside.objects.items c.args.r c.args.hidden.now =
    rw c.deref.ensures.value at c.in_ok-set_hidden_in.ensures.allows in
    let e = ap (λ (b : Bool). not b) (allows_live _ _ _ _ c.self.invariant.0 c.args.r c.args.hidden.now allowed) in
    rw (← c.self.view_is) (sym e)

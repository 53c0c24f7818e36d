-- START of a release leaves all releases of classes with Yes bounded, if its handler's row has the storage of the form.
use Rattle.std.specs.Prelude.{Some, slice_get, codes}
use Rattle.std.proofs.Common.{◌≡◌, ℕ, ◌==◌, ◌≤◌, ◌<◌, List, length, Bool, true, false, refl, sym, ◌∙◌, ap, subst, arith}
use Rattle.std.proofs.lemmas.Bool.Decides.{nat_tests}
use Rattle.scj_rules.specs.Bodies.{body_named}
use Rattle.scj_rules.specs.declared.views.Body.{Body}
use Rattle.accepted_laws.proofs.Tools.{some_inj}
use Rattle.scj_model.specs.declared.handlers.HandlerRow.{HandlerRow}
use Rattle.scj_model.specs.Code.{Code}
use Rattle.scj_model.specs.State.{Release, State}
use Rattle.scj_model.specs.Memory.{used}
use Rattle.scj_model.specs.Registry.{handler_row}
use Rattle.scj_model.specs.Run.{started_with}
use Rattle.priority_laws.specs.Started.{StartedRelease, started_at}
use Rattle.priority_laws.proofs.ReleaseMoves.{LeavesOthers}
use Rattle.memory_needs.specs.Need.{Table, too_much}
use Rattle.memory_bounds.specs.Weights.{IsBound}
use Rattle.memory_bounds.specs.Bounded.{IsBounded}
use Rattle.memory_bounds.specs.Theorem.{Storage, IsYes, AreBounded, RowsReport}
use Rattle.memory_bounds.proofs.Kept.{others_keep}
use Rattle.memory_bounds.proofs.Applied.{BoundedAfter}
use Rattle.memory_bounds.proofs.Begins.{start_bounded}
use Rattle.memory_bounds.proofs.Resting.{start_spares, start_keeps}
use Rattle.memory_bounds.proofs.Turns.{started_activity}

module _ (code : Code) (storage : Storage) (table : Table) (bound : IsBound code table) (s : State)
    (b : AreBounded code storage table s) (index : ℕ) (r : Release) (there : slice_get s.releases index ≡ Some r)
    (row : HandlerRow) (scope : ℕ) (body : Body) (is_row : handler_row s.registry r.handler ≡ Some row)
    (is_body : body_named code.program row.class (codes "handleAsyncEvent") ≡ Some body) (reports : RowsReport storage s)
    (empty : used s (length s.areas) ≡ 0) (leaves : LeavesOthers s (started_with code s index row scope body).state index)
    (same_handler : (w : StartedRelease) →
    started_at (started_with code s index row scope body).state.releases index ≡ Some w → w.handler ≡ r.handler) where
  abbrev after : State
  after = (started_with code s index row scope body).state

  row_before : (handler : ℕ) (x : HandlerRow) → handler_row after.registry handler ≡ Some x →
      handler_row s.registry handler ≡ Some x
  row_before handler x e =
      ap (λ (registry : List HandlerRow). handler_row registry handler) (sym leaves.registry) ∙ e

  own : (w : StartedRelease) (x : HandlerRow) → started_at after.releases index ≡ Some w →
      handler_row after.registry w.handler ≡ Some x → IsYes code storage table x.class →
      IsBounded code table after w.activity.frames
  unfolding BoundedAfter
  own w x e x_is given_is =
      let mine : handler_row s.registry r.handler ≡ Some x =
      ap (handler_row s.registry) (sym (same_handler w e)) ∙ row_before w.handler x x_is in
      let same : x ≡ row = some_inj x row (sym mine ∙ is_row) in
      let reported : IsYes code storage table row.class =
      subst (λ (y : HandlerRow). IsYes code storage table y.class) same given_is in
      let same_body : reported.body ≡ body = some_inj reported.body body (sym reported.is_body ∙ is_body) in
      let bytes : row.bytes ≡ reported.bytes = reports r.handler row reported.bytes is_row reported.is_storage in
      let needs : table body ≡ table reported.body = ap table (sym same_body) in
      let fits : table body ≤ row.bytes = (let k = reported.fits in omega (arith, k, bytes, needs)) in
      let small : row.bytes < too_much = (let k = reported.small in omega (arith, k, bytes)) in
      start_bounded code table bound s index r there row scope body empty fits small w.activity
      (started_activity after index w e)

  other : (q : ℕ) → (index ≡ q → ⊥) → (w : StartedRelease) (x : HandlerRow) → started_at after.releases q ≡ Some w →
      handler_row after.registry w.handler ≡ Some x → IsYes code storage table x.class →
      IsBounded code table after w.activity.frames
  other q differ w x e x_is reported =
      others_keep code table s after w.activity.frames
      (λ a h. start_keeps code table s index row scope body a)
      (start_spares code s index row scope body 0).areas
      (b.is q w x (sym (leaves.others q differ) ∙ e) (row_before w.handler x x_is) reported)

  pub start_stays : AreBounded code storage table after
  start_stays = record { is = λ q w x e x_is reported. of q w x e x_is reported (index == q) refl }
    where
      of : (q : ℕ) (w : StartedRelease) (x : HandlerRow) → started_at after.releases q ≡ Some w →
          handler_row after.registry w.handler ≡ Some x → IsYes code storage table x.class → (c : Bool) →
          (index == q) ≡ c → IsBounded code table after w.activity.frames
      of q w x e x_is reported true p =
          let same : index ≡ q = grind (arith, nat_tests) in
          own w x (ap (started_at after.releases) same ∙ e) x_is reported
      of q w x e x_is reported false p =
          let differ : index ≡ q → ⊥ = grind (arith, nat_tests) in
          other q differ w x e x_is reported

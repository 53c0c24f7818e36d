use Rattle.std.proofs.Common.{ℕ, List, Option, refl, ◌∙◌, arith}
use Rattle.std.proofs.lemmas.List.{nil_from_length}
use Rattle.class_rows.specs.declared.fields.FieldRef.{FieldRef}
use Rattle.class_rows.specs.Members.{nearest_in}
use Rattle.symbol_table.specs.Scopes.{with_class}
use Rattle.symbol_table.proofs.LookLemmas.{first_left, one_renewed, same_without}
use Rattle.symbol_table.proofs.scopes.renew.Goals as goal

pub loop-others-init : goal.loop-others-init
loop-others-init c =
    record {
      kept = λ class. refl;
      named = λ path u a.
          record {
            reported = a.reported;
            renewed = λ name h. a.nearest name
                ∙ same_without c.args.kind c.args.classes.now name c.args.level.now.class path c.args.is_entered
                (rw c.members-others.ensures at h);
          };
    }

pub standing-member-requires : goal.standing-member-requires
standing-member-requires c = c.loop-others.invariant.kept c.args.level.now.class ∙ c.requires

pub loop-others-preserved-in-Continue-1 : goal.loop-others-preserved-in-Continue-1
loop-others-preserved-in-Continue-1 c =
    record {
      kept = λ class. c.in_ok-note.ensures.kept class ∙ c.loop-others.invariant.kept class;
      named = λ path u a.
          let forest = c.args.classes.now in
          let was = c.loop-others.invariant.named path u a in
          let whole = first_left c.id-item.result c.loop-others.others.now c.in-len1-up.len_at_least c.id-item.is in
          let after : List ℕ → Option FieldRef =
          λ name. nearest_in c.args.kind forest name (with_class c.args.is_entered c.args.level.now.class path) in
          let member = rw u.behind at (c.standing-member.ensures was.reported) in
          record {
            reported = (rw c.program-program.ensures at c.in_ok-note.ensures.reported) c.args.kind was.reported;
            renewed = λ name h.
                one_renewed c.args.kind forest name after c.id-item.result _ c.in-Some.name _ _
                c.standing-member.result (rw c.program-program.ensures at c.in-Some.ensures) member
                (c.in_ok-note.ensures.now name) (rw whole at (was.renewed name)) h;
          };
    }

pub loop-others-preserved : goal.loop-others-preserved
loop-others-preserved c =
    record {
      kept = c.loop-others.invariant.kept;
      named = λ path u a.
          let was = c.loop-others.invariant.named path u a in
          let whole = first_left c.id-item.result c.loop-others.others.now c.in-len1-up.len_at_least c.id-item.is in
          let none = rw c.program-program.ensures at c.in_default-name_at.ensures in
          record { reported = was.reported; renewed = λ name h. (rw whole at (was.renewed name)) (rw (← none) h) };
    }

pub returns-clause-named : goal.returns-clause-named
returns-clause-named c = λ path u a.
    let was = c.loop-others.invariant.named path u a in
    let none = nil_from_length c.loop-others.others.now (omega (arith, c.in_default.len_below)) in
    record { reported = was.reported; nearest = λ name. was.renewed name (rw none refl) }

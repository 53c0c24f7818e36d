-- A program without a guard, and one whose guard is undone: what their runs come to.
use Rattle.std.proofs.Common.{ℕ, refl}
use Rattle.scj_base.specs.declared.positions.Position.{Position}
use Rattle.scj_base.specs.declared.findings.Rule.TheVariants.{E5}
use Rattle.scj_rules.specs.declared.typing.Subject.TheVariants.{Variable}
use Rattle.scj_rules.proofs.Computing.{computing}
use Rattle.scj_model.proofs.Computing.{computing_machine}
use Rattle.scj_model.specs.Safety.{live, references_of_frame, reference_in, started_activities}
use Rattle.needed_rules.specs.Needed.{BreaksOnly, IsNeeded, IsUnsafeUnguarded, IsUnsafeWhereUndone}
use Rattle.needed_rules.proofs.ProgramE5Undone.{e5_undone}
use Rattle.needed_rules.proofs.ProgramE5Unguarded.{e5_unguarded}
use Rattle.needed_rules.proofs.Texts.{e5_undone_text, e5_unguarded_text}
use Rattle.needed_rules.proofs.TextsRead.{e5_undone_reads, e5_unguarded_reads}
use Rattle.needed_rules.proofs.Unsafe.{Dangles, dangles}

abbrev at : ℕ → ℕ → Position
at line col = record { file = 0; line = line; col = col }

e5_unguarded_breaks : BreaksOnly e5_unguarded E5 (at 16 76)
unfolding computing
e5_unguarded_breaks = record { classes = refl; types = refl; scopes = refl; uses = refl }

e5_unguarded_dangles : Dangles e5_unguarded 51
unfolding computing_machine live references_of_frame reference_in started_activities
e5_unguarded_dangles = record { index = 5; r = 5; is_live = refl; is_gone = refl }

abbrev e5_unguarded_is_needed : IsNeeded E5
e5_unguarded_is_needed =
    record {
      text = e5_unguarded_text;
      program = e5_unguarded;
      reads = e5_unguarded_reads;
      position = at 16 76;
      breaks = e5_unguarded_breaks;
      is_unsafe = dangles e5_unguarded 51 e5_unguarded_dangles;
    }

pub is_unsafe_unguarded : IsUnsafeUnguarded
unfolding computing
is_unsafe_unguarded =
    record {
      needed = e5_unguarded_is_needed;
      store = 66;
      target = 64;
      value = 65;
      is_store = refl;
      is_lost = refl;
      is_unknown = refl;
      stands_alone = refl;
    }

e5_undone_breaks : BreaksOnly e5_undone E5 (at 17 58)
unfolding computing
e5_undone_breaks = record { classes = refl; types = refl; scopes = refl; uses = refl }

e5_undone_dangles : Dangles e5_undone 59
unfolding computing_machine live references_of_frame reference_in started_activities
e5_undone_dangles = record { index = 5; r = 5; is_live = refl; is_gone = refl }

abbrev e5_undone_is_needed : IsNeeded E5
e5_undone_is_needed =
    record {
      text = e5_undone_text;
      program = e5_undone;
      reads = e5_undone_reads;
      position = at 17 58;
      breaks = e5_undone_breaks;
      is_unsafe = dangles e5_undone 59 e5_undone_dangles;
    }

pub is_unsafe_where_undone : IsUnsafeWhereUndone
unfolding computing
is_unsafe_where_undone =
    record {
      needed = e5_undone_is_needed;
      store = 77;
      is_at = refl;
      number = 79;
      stands = refl;
      guard = record { first = Variable 57; second = Variable 61 };
      asks = refl;
      is_undone = refl;
    }

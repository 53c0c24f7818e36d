-- Each row is a program that breaks one rule on annotations alone, and what its run comes to.
use Rattle.std.proofs.Common.{ℕ, refl}
use Rattle.scj_base.specs.declared.positions.Position.{Position}
use Rattle.scj_base.specs.declared.findings.Rule.TheVariants.{A2, A3, A4, A5, A6}
use Rattle.scj_rules.proofs.Computing.{computing}
use Rattle.scj_model.proofs.Computing.{computing_machine}
use Rattle.scj_model.specs.Safety.{live, references_of_frame, reference_in, started_activities}
use Rattle.needed_rules.specs.Needed.{BreaksOnly, IsNeeded}
use Rattle.needed_rules.proofs.Unsafe.{Dangles, dangles}
use Rattle.needed_rules.proofs.ProgramA2Class.{a2_class}
use Rattle.needed_rules.proofs.ProgramA3Field.{a3_field}
use Rattle.needed_rules.proofs.ProgramA4Field.{a4_field}
use Rattle.needed_rules.proofs.ProgramA5Static.{a5_static}
use Rattle.needed_rules.proofs.ProgramA6Override.{a6_override}
use Rattle.needed_rules.proofs.Texts.{a2_class_text, a3_field_text, a4_field_text, a5_static_text, a6_override_text}
use Rattle.needed_rules.proofs.TextsRead.{a2_class_reads, a3_field_reads, a4_field_reads, a5_static_reads, a6_override_reads}

abbrev at : ℕ → ℕ → Position
at line col = record { file = 0; line = line; col = col }

a2_class_breaks : BreaksOnly a2_class A2 (at 15 8)
unfolding computing
a2_class_breaks = record { classes = refl; types = refl; scopes = refl; uses = refl }

a2_class_dangles : Dangles a2_class 34
unfolding computing_machine live references_of_frame reference_in started_activities
a2_class_dangles = record { index = 0; r = 3; is_live = refl; is_gone = refl }

pub a2_class_is_needed : IsNeeded A2
a2_class_is_needed =
    record {
      text = a2_class_text;
      program = a2_class;
      reads = a2_class_reads;
      position = at 15 8;
      breaks = a2_class_breaks;
      is_unsafe = dangles a2_class 34 a2_class_dangles;
    }

a3_field_breaks : BreaksOnly a3_field A3 (at 14 28)
unfolding computing
a3_field_breaks = record { classes = refl; types = refl; scopes = refl; uses = refl }

a3_field_dangles : Dangles a3_field 47
unfolding computing_machine live references_of_frame reference_in started_activities
a3_field_dangles = record { index = 5; r = 5; is_live = refl; is_gone = refl }

pub a3_field_is_needed : IsNeeded A3
a3_field_is_needed =
    record {
      text = a3_field_text;
      program = a3_field;
      reads = a3_field_reads;
      position = at 14 28;
      breaks = a3_field_breaks;
      is_unsafe = dangles a3_field 47 a3_field_dangles;
    }

a4_field_breaks : BreaksOnly a4_field A4 (at 14 16)
unfolding computing
a4_field_breaks = record { classes = refl; types = refl; scopes = refl; uses = refl }

a4_field_dangles : Dangles a4_field 47
unfolding computing_machine live references_of_frame reference_in started_activities
a4_field_dangles = record { index = 5; r = 5; is_live = refl; is_gone = refl }

pub a4_field_is_needed : IsNeeded A4
a4_field_is_needed =
    record {
      text = a4_field_text;
      program = a4_field;
      reads = a4_field_reads;
      position = at 14 16;
      breaks = a4_field_breaks;
      is_unsafe = dangles a4_field 47 a4_field_dangles;
    }

a5_static_breaks : BreaksOnly a5_static A5 (at 15 26)
unfolding computing
a5_static_breaks = record { classes = refl; types = refl; scopes = refl; uses = refl }

a5_static_dangles : Dangles a5_static 28
unfolding computing_machine live references_of_frame reference_in started_activities
a5_static_dangles = record { index = 0; r = 3; is_live = refl; is_gone = refl }

pub a5_static_is_needed : IsNeeded A5
a5_static_is_needed =
    record {
      text = a5_static_text;
      program = a5_static;
      reads = a5_static_reads;
      position = at 15 26;
      breaks = a5_static_breaks;
      is_unsafe = dangles a5_static 28 a5_static_dangles;
    }

a6_override_breaks : BreaksOnly a6_override A6 (at 15 31)
unfolding computing
a6_override_breaks = record { classes = refl; types = refl; scopes = refl; uses = refl }

a6_override_dangles : Dangles a6_override 39
unfolding computing_machine live references_of_frame reference_in started_activities
a6_override_dangles = record { index = 0; r = 4; is_live = refl; is_gone = refl }

pub a6_override_is_needed : IsNeeded A6
a6_override_is_needed =
    record {
      text = a6_override_text;
      program = a6_override;
      reads = a6_override_reads;
      position = at 15 31;
      breaks = a6_override_breaks;
      is_unsafe = dangles a6_override 39 a6_override_dangles;
    }

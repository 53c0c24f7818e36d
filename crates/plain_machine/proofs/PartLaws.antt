-- Fronts that were put.
use Rattle.std.proofs.Common.{ℕ, List, [], ◌++◌, Option, refl, sym, ◌∙◌, ap, append_assoc}
use Rattle.scj_io.specs.Puts.{SinkRun, sink_run, PutWhole}
use Rattle.scj_io.proofs.PutLaws.{PutWhole-nothing, PutWhole-then}
use Rattle.plain_machine.specs.Runs.{PutPart}

-- nothing is a front of any bytes
pub PutPart-nothing : (taken : Option (List ℕ)) (faults : ℕ) (bytes : List ℕ) →
    PutPart (sink_run taken taken faults faults) bytes
PutPart-nothing taken faults bytes = record {
  front = [];
  rest = bytes;
  parts = refl;
  put = PutWhole-nothing taken faults;
}

-- what was put whole, and then a front of what comes behind it
pub PutPart-then : {t u v : Option (List ℕ)} {f g h : ℕ} {x y : List ℕ} → PutWhole (sink_run t u f g) x →
    PutPart (sink_run u v g h) y → PutPart (sink_run t v f h) (x ++ y)
PutPart-then {x = x} first second = record {
  front = x ++ second.front;
  rest = second.rest;
  parts = ap (λ (bytes : List ℕ). x ++ bytes) second.parts ∙ sym (append_assoc x second.front second.rest);
  put = PutWhole-then first second.put;
}

-- a front of some bytes is a front of them and any more
pub PutPart-more : {out : SinkRun} {x : List ℕ} → PutPart out x → (y : List ℕ) → PutPart out (x ++ y)
PutPart-more part y = record {
  front = part.front;
  rest = part.rest ++ y;
  parts = ap (λ (bytes : List ℕ). bytes ++ y) part.parts ∙ append_assoc part.front part.rest y;
  put = part.put;
}

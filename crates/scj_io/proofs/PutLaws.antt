-- Puts one after another.
use Rattle.std.proofs.Common.{◌≡◌, ℕ, List, [], ◌++◌, Option, Some, None, refl, sym, ap, ◌∙◌, append_assoc, append-nil, arith}
use Rattle.scj_io.specs.Puts.{appended, Took, TookFront, sink_run, SinkRun, PutWhole, PutFront}
use Rattle.scj_io.proofs.CounterLaws.{Rose-earlier}

pub appended-nil : (taken : Option (List ℕ)) → appended taken [] ≡ taken
appended-nil (Some taken) = ap (λ (t : List ℕ). Some t) (append-nil taken)
appended-nil None = refl

pub appended-append : (taken : Option (List ℕ)) (x y : List ℕ) → appended (appended taken x) y ≡ appended taken (x ++ y)
appended-append (Some taken) x y = ap (λ (t : List ℕ). Some t) (append_assoc taken x y)
appended-append None x y = refl

-- no bytes are taken by doing nothing
pub Took-nothing : (taken : Option (List ℕ)) → Took taken taken []
Took-nothing taken = record { whole = sym (appended-nil taken) }

-- bytes and then more bytes
pub Took-then : {before between after : Option (List ℕ)} {x y : List ℕ} → Took before between x → Took between after y →
    Took before after (x ++ y)
Took-then {before} {between} {after} {x} {y} first second = record {
  whole = rw (second.whole, first.whole) (appended-append before x y);
}

-- all of some bytes are a front of them and any more
pub Took-front : {before after : Option (List ℕ)} {x : List ℕ} → Took before after x → (y : List ℕ) →
    TookFront before after (x ++ y)
Took-front {x = x} whole y = record { front = x; rest = y; parts = refl; took = whole.whole }

-- bytes and then a front of more bytes
pub Took-then-front : {before between after : Option (List ℕ)} {x y : List ℕ} → Took before between x →
    TookFront between after y → TookFront before after (x ++ y)
Took-then-front {before} {between} {after} {x} {y} first second = record {
  front = x ++ second.front;
  rest = second.rest;
  parts = ap (λ (t : List ℕ). x ++ t) second.parts ∙ sym (append_assoc x second.front second.rest);
  took = rw (second.took, first.whole) (appended-append before x second.front);
}

-- a front of bytes is a front of them and any more
pub TookFront-more : {before after : Option (List ℕ)} {x : List ℕ} → TookFront before after x → (y : List ℕ) →
    TookFront before after (x ++ y)
TookFront-more front y = record {
  front = front.front;
  rest = front.rest ++ y;
  parts = ap (λ (t : List ℕ). t ++ y) front.parts ∙ append_assoc front.front front.rest y;
  took = front.took;
}

pub PutWhole-nothing : (taken : Option (List ℕ)) (faults : ℕ) → PutWhole (sink_run taken taken faults faults) []
PutWhole-nothing taken faults = record { later = omega arith; took = Took-nothing taken }

pub PutWhole-then : {t u v : Option (List ℕ)} {f g h : ℕ} {x y : List ℕ} → PutWhole (sink_run t u f g) x →
    PutWhole (sink_run u v g h) y → PutWhole (sink_run t v f h) (x ++ y)
PutWhole-then first second = record { later = omega arith; took = Took-then first.took second.took }

pub PutWhole-then-front : {t u v : Option (List ℕ)} {f g h : ℕ} {x y : List ℕ} → PutWhole (sink_run t u f g) x →
    PutFront (sink_run u v g h) y → PutFront (sink_run t v f h) (x ++ y)
PutWhole-then-front first second = record {
  later = omega arith;
  rose = Rose-earlier _ _ _ first.later second.rose;
  took = Took-then-front first.took second.took;
}

pub PutFront-more : {run : SinkRun} {x : List ℕ} → PutFront run x → (y : List ℕ) → PutFront run (x ++ y)
PutFront-more front y = record { later = front.later; rose = front.rose; took = TookFront-more front.took y }

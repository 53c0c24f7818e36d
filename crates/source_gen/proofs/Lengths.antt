-- How long a generated source is.
use Rattle.std.proofs.Common.{ℕ, zero, suc, ◌+◌, ◌*◌, ◌<◌, ◌≤◌, List, length, length-append, decimal, arith}
use Rattle.std.proofs.lemmas.Fmt.{length-decimal-le}
use Rattle.source_gen.specs.Generated.{safelet_lines, mission_lines, handler_head, handler_lines, print_line, class_line, up_to, source_of}

few_digits : (n : ℕ) → n < 10000 → length (decimal n) ≤ 4
few_digits n small = length-decimal-le 4 n (omega arith) (omega arith) (omega arith)

print_is_short : (i : ℕ) → i ≤ 250 → length (print_line i) ≤ 100
unfolding print_line
print_is_short i small =
    let digits : length (decimal i) ≤ 4 = few_digits i (omega arith) in
    grind (arith, length-append)

class_is_short : (i : ℕ) → i ≤ 250 → length (class_line i) ≤ 200
unfolding class_line
class_is_short i small =
    let digits : length (decimal i) ≤ 4 = few_digits i (omega arith) in
    grind (arith, length-append)

lines_are_short : (line : ℕ → List ℕ) (most n : ℕ) → n ≤ 250 → ((i : ℕ) → i ≤ 250 → length (line i) ≤ most) →
    length (up_to line n) ≤ most * n
unfolding up_to
lines_are_short line most zero small each = omega arith
lines_are_short line most (suc n) small each =
    let before : length (up_to line n) ≤ most * n = lines_are_short line most n (omega arith) each in
    let this : length (line (suc n)) ≤ most = each (suc n) (omega arith) in
    omega (arith, length-append (up_to line n) (line (suc n)))

handler_is_short : (n : ℕ) → n ≤ 250 → length (handler_lines n) ≤ 1000
unfolding handler_lines handler_head
handler_is_short n small =
    let digits : length (decimal (24 * n)) ≤ 4 = few_digits (24 * n) (omega arith) in
    grind (arith, length-append)

begin_is_short : length safelet_lines + length mission_lines ≤ 1000
unfolding safelet_lines mission_lines
begin_is_short = omega arith

pub source_is_short : (n : ℕ) → n ≤ 250 → length (source_of n) ≤ 1048576
unfolding source_of
source_is_short n small =
    let begin : length safelet_lines + length mission_lines ≤ 1000 = begin_is_short in
    let handler : length (handler_lines n) ≤ 1000 = handler_is_short n small in
    let prints : length (up_to print_line n) ≤ 100 * n = lines_are_short print_line 100 n small print_is_short in
    let classes : length (up_to class_line n) ≤ 200 * n = lines_are_short class_line 200 n small class_is_short in
    grind (arith, length-append)

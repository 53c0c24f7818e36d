-- Bytes as whole words.
use Rattle.std.proofs.Common.{◌≡◌, ℕ, ◌*◌, ◌/◌, ◌≤◌, arith}
use Rattle.scj_model.specs.Memory.{rounded_up}

pub rounded_covers : (bytes : ℕ) → bytes ≤ rounded_up bytes
rounded_covers bytes = omega arith

pub rounded_whole : (bytes : ℕ) → 8 * (rounded_up bytes / 8) ≡ rounded_up bytes
rounded_whole bytes = omega arith

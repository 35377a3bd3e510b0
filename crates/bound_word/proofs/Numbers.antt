-- Successors.
use Rattle.std.proofs.Common.{◌≡◌, ◌≢◌, ℕ, suc, arith}

pub suc_is_not_zero : (k : ℕ) → suc k ≢ 0
suc_is_not_zero k e = omega arith

pub zero_is_not_suc : (k : ℕ) → 0 ≢ suc k
zero_is_not_suc k e = omega arith

pub suc_same : (j k : ℕ) → suc j ≡ suc k → j ≡ k
suc_same j k e = omega arith

-- Counts of faults, by which a failure has its cause outside.
--
--     last_count               the last value of a count of 64 bits
--     Rose before now          the count is higher than it was
--     RoseOrFull before now    the count is higher than it was, or stands at the last value
--
-- A count never falls. So one that rose in a call rose in each run of calls of which that call is a part.
use Rattle.std.specs.Prelude.{ℕ, ◌+◌, ◌-◌, ◌^◌, ◌<◌, ◌≤◌, min}

abbrev pub last_count : ℕ
last_count = 2 ^ 64 - 1

abbrev pub Rose : ℕ → ℕ → Type 0
Rose before now = before < now

abbrev pub RoseOrFull : ℕ → ℕ → Type 0
RoseOrFull before now = min (before + 1) last_count ≤ now

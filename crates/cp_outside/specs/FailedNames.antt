-- How often each name stands among the names of the reads that failed.
--
--     times_failed failed name    how many of these names are this one
use Rattle.std.specs.Prelude.{ℕ, List, count_by, String, string_bytes}
use Rattle.std.specs.Str.{bytes_eq}
use Rattle.std.specs.Global.{Global}

unfoldable pub times_failed : List (String Global) → List ℕ → ℕ
times_failed failed name = count_by (λ one. bytes_eq name (string_bytes one)) failed

-- What a search answers, as the program ends with it. Its values are entries of cones that fit.
use Rattle.std.specs.Prelude.{◌≡◌, ℕ, suc, ◌-◌, ◌<◌, ◌≤◌, ◌^◌, nat_abs, ℤ, List}
use Rattle.std.proofs.Common.{arith, subst, sym, refl, ap₂}
use Rattle.symmetric_matrix.specs.Symmetric.{Symmetric, entry, FitsInt}
use Rattle.unimodular_cone.specs.declared.Mode.{Mode}
use Rattle.unimodular_cone.specs.declared.WideAt.{WideAt}
use Rattle.unimodular_cone.specs.declared.WideEntry.{WideEntry}
use Rattle.unimodular_cone.specs.Paths.{Path}
use Rattle.unimodular_cone.specs.Cones.{Matrix, value, unit_vectors, cone_at, Fits}
use Rattle.unimodular_cone.specs.Tree.{IsInTree}
use Rattle.unimodular_cone.specs.Answer.{IsSearchAnswer, SearchAnswer}
use Rattle.unimodular_cone.proofs.Tree.{fits_in_tree}
use Rattle.cpfactor_top.specs.declared.ended.Ended.{Ended}
use Rattle.cpfactor_top.specs.declared.ended.Cause.TheVariants.{Depth, Overflow}
use Rattle.perfect_walk.specs.declared.journal.Owed.TheVariants.{Gram}
use Rattle.cpfactor_top.specs.Causes.{ending, separated_ending}
use Rattle.cpfactor_lines.specs.Texts.{owed_text, depth_text, low_text}
use Rattle.cpfactor_lines.specs.Sinks.{SinkShown}
use Rattle.cpfactor_top.specs.Outcomes.{EndsBy, IsOnly}
use Rattle.cpfactor_top.specs.Searching.{HasMeaning, search_ending, search_text, IsFound}
use Rattle.cpfactor_top.proofs.OutcomeLaws.{ends_by_only}

value_within : (n : ℕ) (q : Matrix) (d : ℕ) (path : Path) (k : ℕ) → Fits n q unit_vectors → IsInTree n q d path → k < n
    → FitsInt (value n q (cone_at n q path) k)
value_within n q d path k root t l =
    by (nat_abs (value n q (cone_at n q path) k)) (λ over. fits_in_tree n q d root path t (WideEntry.Gram (suc k) (suc k)) (l, omega arith, over))
  where
    by : (z : ℕ) → (2 ^ 100 < z → ⊥) → z ≤ 2 ^ 127 - 1
    by z h = omega arith

pub low_narrow : (m : Mode) (n : ℕ) (q : Matrix) (d : ℕ) (x : List ℕ) (z told : ℤ) (path : Path) → told ≡ z → IsSearchAnswer m n q d (SearchAnswer.Low x z path)
    → FitsInt told
low_narrow m n q d x z told path is h =
    subst FitsInt (sym is) (subst FitsInt h.value (value_within n q d path h.which h.root_fits h.first_low.in_tree h.is_which.range))

pub found_narrow : (n : ℕ) (q : Matrix) (d : ℕ) (z : ℤ) (vectors : List (List ℕ)) → IsSearchAnswer Mode.Least n q d (SearchAnswer.Found z vectors) → FitsInt z
found_narrow n q d z vectors h =
    let c = h.1 in let b = c.is_bound.attained in
    subst FitsInt b.4 (value_within n q d b.0 b.1 c.clear.root_fits b.2 b.3)

-- ---- the ending of an answer, with its text
pub found_ends : (m : Mode) (depth : ℕ) (s : Symmetric) (d : ℤ) (answer : SearchAnswer) (e : Ended) (text : List ℕ) (shown : SinkShown) (given : Ended)
    → IsSearchAnswer m s.size (entry s) depth answer → HasMeaning m s answer
    → e ≡ search_ending answer → text ≡ search_text s.size d answer → EndsBy (IsOnly e text) shown given → EndsBy (IsFound m depth s d) shown given
found_ends m depth s d answer e text shown given is holds ended written ends =
    ends_by_only (IsFound m depth s d) e text shown given (record {
      found = record { answer = answer; is_answer = is; ended = ended };
      meaning = holds;
      written = written;
    }) ends

pub low_ends : (m : Mode) (depth : ℕ) (s : Symmetric) (d over z told : ℤ) (x : List ℕ) (path : Path) (shown : SinkShown) (given : Ended)
    → IsSearchAnswer m s.size (entry s) depth (SearchAnswer.Low x z path) → HasMeaning m s (SearchAnswer.Low x z path)
    → over ≡ d → told ≡ z → EndsBy (IsOnly separated_ending (low_text over x told path)) shown given → EndsBy (IsFound m depth s d) shown given
low_ends m depth s d over z told x path shown given is holds same value ends =
    found_ends m depth s d (SearchAnswer.Low x z path) separated_ending (low_text over x told path) shown given is holds refl
    (ap₂ (λ (d z : ℤ). low_text d x z path) same value) ends

pub depth_ends : (m : Mode) (depth : ℕ) (s : Symmetric) (d : ℤ) (path : Path) (shown : SinkShown) (given : Ended)
    → IsSearchAnswer m s.size (entry s) depth (SearchAnswer.Depth path)
    → EndsBy (IsOnly (ending (Depth path)) (depth_text path)) shown given → EndsBy (IsFound m depth s d) shown given
depth_ends m depth s d path shown given is ends =
    found_ends m depth s d (SearchAnswer.Depth path) (ending (Depth path)) (depth_text path) shown given is tt refl refl ends

pub wide_ends : (m : Mode) (depth : ℕ) (s : Symmetric) (d : ℤ) (at : WideAt) (shown : SinkShown) (given : Ended)
    → IsSearchAnswer m s.size (entry s) depth (SearchAnswer.Wide at.path at.entry)
    → EndsBy (IsOnly (ending (Overflow (Gram at))) (owed_text (Gram at))) shown given → EndsBy (IsFound m depth s d) shown given
wide_ends m depth s d at shown given is ends =
    found_ends m depth s d (SearchAnswer.Wide at.path at.entry) (ending (Overflow (Gram at))) (owed_text (Gram at)) shown given is tt refl refl ends

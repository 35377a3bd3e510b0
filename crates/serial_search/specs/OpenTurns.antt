-- One turn of a search over narrow cones, of which no child is made that is closed at the word's bound, where the mediant's value is
-- that bound or more.
--
--     new_among made i               where the mediant's value is below the bound, it is new in child 0, which is judged next, as
--                                    generator i, from 1; else no generator is
--     NotesMediant word attains x old keys   under a word over 256 keys are old and the key x of a mediant that attains the bound
--     MayOpen a next                 where it is Split: the top of the arena may be split so, and both its children fit
--     IsOpened m word c i j rest old new keys fresh   so it is after a split on the sides of i and j, from 1
--     IsTakenAway rest old new keys fresh   so it is where no child is made
--     IsOpenTurn m word c next rest old new keys fresh   new is the rest, with the open children of a Split at the word's bound on
--                                    top, keys are the old ones and the mediant's where it is noted, and fresh are the new
--                                    generators of the cone that is then on top
--     IsOpenTurnOf m word a next old b keys fresh   so is the arena b made of the arena a
use Rattle.std.specs.Prelude.{ℕ, ◌≡◌, ◌<◌, ◌-◌, ◌⊎◌, Bool, IsTrue, List}
use Rattle.unimodular_cone.specs.declared.Mode.{Mode}
use Rattle.unimodular_cone.specs.declared.OpenChildren.{OpenChildren}
use Rattle.unimodular_cone.specs.declared.OpenChildren.TheVariants.{Below, Both, First, Second, Neither}
use Rattle.unimodular_cone.specs.declared.Opened.{Opened}
use Rattle.unimodular_cone.specs.OpenChildren.{IsOpening}
use Rattle.unimodular_cone.specs.Shown.{ShownCone}
use Rattle.cone_arena.specs.Arena.{ShownArena, IsOnTop, MaySplit, TopFits}
use Rattle.cone_arena.specs.OpenTops.{AreOpenOn}
use Rattle.search_core.specs.declared.Next.{Next}
use Rattle.search_core.specs.declared.Next.TheVariants.{Split, Gone, Kept}
use Rattle.search_core.specs.declared.NewGenerators.{NewGenerators}
use Rattle.search_core.specs.declared.NewGenerators.TheVariants.{One, NoOne}
use Rattle.search_core.specs.Attaining.{IsWithKey}
use Rattle.search_core.specs.Fair.{bound_under}

abbrev pub new_among : OpenChildren → ℕ → NewGenerators
new_among Below i = One i
new_among Both i = NoOne
new_among First i = NoOne
new_among Second i = NoOne
new_among Neither i = NoOne

abbrev pub NotesMediant : ℕ → Bool → List ℕ → List (List ℕ) → List (List ℕ) → Type 0
NotesMediant word attains x old keys =
    ((256 < word) × IsTrue attains × IsWithKey old x keys) ⊎ ((256 < word → ¬ IsTrue attains) × (keys ≡ old))

abbrev pub MayOpen : ShownArena → Next → Type 0
MayOpen a (Split i j) = MaySplit a i j × TopFits a i j
MayOpen a Gone = Unit {0}
MayOpen a Kept = Unit {0}

pub record IsOpened (m : Mode) (word : ℕ) (c : ShownCone) (i j : ℕ) (rest : List ShownCone) (old : List (List ℕ))
    (new : List ShownCone) (keys : List (List ℕ)) (fresh : NewGenerators) : Type 0 where
  pub o : Opened
  pub mediant : List ℕ
  pub opening : IsOpening c (i - 1) (j - 1) (bound_under m word) o mediant
  pub opened : AreOpenOn c (i - 1) (j - 1) o.made rest new
  pub notes : NotesMediant word o.attains mediant old keys
  pub fresh_is : fresh ≡ new_among o.made i

pub record IsTakenAway (rest : List ShownCone) (old : List (List ℕ)) (new : List ShownCone) (keys : List (List ℕ))
    (fresh : NewGenerators) : Type 0 where
  pub cones : new ≡ rest
  pub same : keys ≡ old
  pub none_new : fresh ≡ NoOne

abbrev pub IsOpenTurn : Mode → ℕ → ShownCone → Next → List ShownCone → List (List ℕ) → List ShownCone
    → List (List ℕ) → NewGenerators → Type 0
IsOpenTurn m word c (Split i j) rest old new keys fresh = IsOpened m word c i j rest old new keys fresh
IsOpenTurn m word c Gone rest old new keys fresh = IsTakenAway rest old new keys fresh
IsOpenTurn m word c Kept rest old new keys fresh = IsTakenAway rest old new keys fresh

pub record IsOpenTurnOf (m : Mode) (word : ℕ) (a : ShownArena) (next : Next) (old : List (List ℕ)) (b : ShownArena)
    (keys : List (List ℕ)) (fresh : NewGenerators) : Type 0 where
  pub size : b.size ≡ a.size
  pub depth : b.depth ≡ a.depth
  pub turned : (c : ShownCone) (rest : List ShownCone) → IsOnTop c rest a.cones
      → IsOpenTurn m word c next rest old b.cones keys fresh

use Rattle.std.specs.Prelude.{◌≡◌, ◌+◌, ◌-◌}
use Rattle.std.proofs.Common.{arith, ap, refl}
use Rattle.unimodular_cone.specs.declared.OpenChildren.TheVariants.{Below, Both, First, Second}
use Rattle.cone_arena.specs.OpenTops.{made_count}
use Rattle.cone_arena.proofs.OpenTops.{counted_as, arena_opened, top_opened}
use Rattle.cone_arena.proofs.Tops.{top_splittable}
use Rattle.cone_arena.proofs.narrow_arena.NarrowArena.split_open.Goals as goal

pub open_in-requires-clause-splits : goal.open_in-requires-clause-splits
open_in-requires-clause-splits c =
    top_splittable c.self.inside.n c.self.inside.depth c.self.inside.len c.self.inside.rows.items c.args.self.now c.args.i c.args.j c.self.view_is
    c.self.invariant.arena c.self.invariant.counted c.requires.can c.requires.fits

pub invariant_of-self-in-Below : goal.invariant_of-self-in-Below
invariant_of-self-in-Below c =
    let more : c.self.inside.len + made_count c.in_ok-opened.opened.made - 1 ≡ c.self.inside.len + 1 =
    omega (arith, counted_as c.in_ok-opened.opened.made Below Both 2 c.in-Below.is refl refl) in
    let kept = arena_opened _ _ _ _ _ _ _ c.self.view_is c.self.invariant.arena c.self.invariant.counted c.requires.can _ _ _ _
    c.in_ok-opened.ensures.opened _ more in
    record { arena = kept.0; counted = kept.1; block = omega (arith, c.self.invariant.block, c.in_ok-opened.ensures.capacity) }

pub invariant_of-self-in-First : goal.invariant_of-self-in-First
invariant_of-self-in-First c =
    let same : c.self.inside.len + made_count c.in_ok-opened.opened.made - 1 ≡ c.self.inside.len =
    omega (arith, counted_as c.in_ok-opened.opened.made First Second 1 c.in-First.is refl refl) in
    let kept = arena_opened _ _ _ _ _ _ _ c.self.view_is c.self.invariant.arena c.self.invariant.counted c.requires.can _ _ _ _
    c.in_ok-opened.ensures.opened _ same in
    record { arena = kept.0; counted = kept.1; block = omega (arith, c.self.invariant.block, c.in_ok-opened.ensures.capacity) }

pub invariant_of-self-in-Neither : goal.invariant_of-self-in-Neither
invariant_of-self-in-Neither c =
    let less : c.self.inside.len + made_count c.in_ok-opened.opened.made - 1 ≡ c.self.inside.len - 1 = omega (arith, ap made_count c.in-Neither.is) in
    let kept = arena_opened _ _ _ _ _ _ _ c.self.view_is c.self.invariant.arena c.self.invariant.counted c.requires.can _ _ _ _
    c.in_ok-opened.ensures.opened _ less in
    record { arena = kept.0; counted = kept.1; block = omega (arith, c.self.invariant.block, c.in_ok-opened.ensures.capacity) }

pub returns-in-Below-clause-opened : goal.returns-in-Below-clause-opened
returns-in-Below-clause-opened c =
    let more : c.self.inside.len + made_count c.in_ok-opened.opened.made - 1 ≡ c.self.inside.len + 1 =
    omega (arith, counted_as c.in_ok-opened.opened.made Below Both 2 c.in-Below.is refl refl) in
    top_opened _ _ _ _ _ _ _ c.self.view_is c.self.invariant.arena c.self.invariant.counted c.requires.can _ _ _ _
    c.in_ok-opened.ensures.opened _ more

pub returns-in-First-clause-opened : goal.returns-in-First-clause-opened
returns-in-First-clause-opened c =
    let same : c.self.inside.len + made_count c.in_ok-opened.opened.made - 1 ≡ c.self.inside.len =
    omega (arith, counted_as c.in_ok-opened.opened.made First Second 1 c.in-First.is refl refl) in
    top_opened _ _ _ _ _ _ _ c.self.view_is c.self.invariant.arena c.self.invariant.counted c.requires.can _ _ _ _
    c.in_ok-opened.ensures.opened _ same

use Rattle.std.proofs.Common.{◌≡◌, ◌-◌, length, take, List, sym, ap, ◌∙◌, arith, Equal}
use Rattle.unimodular_cone.specs.Paths.{Path, place_order}
use Rattle.unimodular_cone.specs.Shown.{ShownCone}
use Rattle.unimodular_cone.proofs.Orders.{place_order_is}
use Rattle.cone_pool.proofs.Tops.{shown_top}
use Rattle.cone_pool.proofs.stack.find.Goals as goal

pub returns-in-Equal-clause-found : goal.returns-in-Equal-clause-found
returns-in-Equal-clause-found c found =
    let stack : List ShownCone = c.loop-stack.stack in record {
      top = c.top.result.now;
      rest = take (length stack - 1) stack;
      is = shown_top stack c.top.result.now (omega arith) c.top.ensures;
      path_is =
          let order : place_order c.top.result.now.path c.args.path.now ≡ Equal =
          ap (λ (p : Path). place_order p c.args.path.now) (sym c.path.ensures) ∙ sym c.by_place.ensures ∙ c.in-Equal.is in
          let cases = place_order_is c.top.result.now.path c.args.path.now in
          rw order at cases;
    }

use Rattle.std.proofs.Common.{◌≡◌, ◌++◌, OnOk, subst}
use Rattle.cpfactor_lines.proofs.Listings.{vector_line_at}
use Rattle.cpfactor_lines.proofs.listing.VectorListListing.push_item.Goals as goal

pub returns : goal.returns
returns c =
    subst (λ t. OnOk c.push_line_of.result (c.push_line_of.new.into.items ≡ c.args.into.now.items ++ t))
    (vector_line_at c.args.self.now c.args.k c.at.result.now c.as_slice.result.now c.at.ensures c.as_slice.ensures.value) c.push_line_of.ensures

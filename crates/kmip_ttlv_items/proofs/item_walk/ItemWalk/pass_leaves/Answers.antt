use Rattle.std.proofs.Common.{arith, refl}
use Rattle.kmip_ttlv_items.specs.Enclosing.{open_ends}
use Rattle.kmip_ttlv_items.proofs.Walks.{first_of, stands_before, stands_passed, met_passed}
use Rattle.kmip_ttlv_items.proofs.item_walk.ItemWalk.pass_leaves.Goals as goal

pub behind_leaves-self-requires-clause-before : goal.behind_leaves-self-requires-clause-before
behind_leaves-self-requires-clause-before g c =
    (stands_before (first_of (open_ends c.args.self.now.ends) c.in-Some.ensures).1 c.args.self.now.stands).0

pub behind_leaves-self-requires-clause-within : goal.behind_leaves-self-requires-clause-within
behind_leaves-self-requires-clause-within g c =
    (stands_before (first_of (open_ends c.args.self.now.ends) c.in-Some.ensures).1 c.args.self.now.stands).1

pub invariant_of-self : goal.invariant_of-self
invariant_of-self g c = record {
  stands = stands_passed (first_of (open_ends c.args.self.now.ends) c.in-Some.ensures).1 c.behind_leaves-self.ensures c.args.self.now.stands;
}

pub returns-in-Some : goal.returns-in-Some
returns-in-Some g c = record {
  bytes = refl;
  met = λ xs m. met_passed (first_of (open_ends c.args.self.now.ends) c.in-Some.ensures).1 c.behind_leaves-self.ensures m;
  onward = omega (arith, c.behind_leaves-self.ensures.onward);
}

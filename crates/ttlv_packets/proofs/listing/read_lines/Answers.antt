use Rattle.std.proofs.Common.{◌≡◌, ◌∙◌, ◌+◌, ℕ, arith, refl, sym, ap, min, length}
use Rattle.ttlv_packets.specs.Listings.{listed_of, line_of}
use Rattle.ttlv_packets.proofs.Rows.{lists_begin, lists_on}
use Rattle.ttlv_packets.proofs.listing.read_lines.Goals as goal

pub lines-init : goal.lines-init
lines-init g c = record {
  within = omega arith;
  lists = lists_begin c.args.text.now refl (rw (c.new.ensures.items, c.new-2.ensures.items) refl);
}

pub lines-preserved : goal.lines-preserved
lines-preserved g c =
    let l = c.lines.listing in
    let s = c.args.text.now in
    let moved : c.min.result ≡ min (length s) (l.end + length c.line_of-line.result.now + 1) =
    c.min.ensures ∙ ap (λ (k : ℕ). min (length s) (k + length c.line_of-line.result.now + 1)) c.push_line.ensures.end in
    record {
      within = omega (arith, moved);
      lists = lists_on s c.line_of-line.result.now l.end c.min.result (listed_of l) (listed_of c.push_line.new.listing)
          c.lines.invariant.lists c.lines-test.true (c.line_of-line.ensures.is ∙ ap line_of c.behind.ensures.is)
          (sym c.goes_on.ensures ∙ c.if-not-goes_on.false) c.in_ok-push_line.ensures.ok moved;
    }

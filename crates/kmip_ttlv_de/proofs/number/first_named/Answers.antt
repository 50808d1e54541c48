use Rattle.kmip_ttlv_reader.proofs.NumberLemmas.{named_here, named_later, named_nowhere}
use Rattle.kmip_ttlv_de.proofs.number.first_named.Goals as goal

pub returns-then-eq-clause-content : goal.returns-then-eq-clause-content
returns-then-eq-clause-content g c = named_here c.args.name.now c.args.variants.now c.loop-variant.variant-index c.variant-item.result c.loop-variant-test.true
    c.variant-item.is c.if-eq.ensures c.loop-variant.invariant

pub loop-variant-preserved : goal.loop-variant-preserved
loop-variant-preserved g c = named_later c.args.name.now c.args.variants.now c.loop-variant.variant-index c.variant-item.result c.loop-variant-test.true
    c.variant-item.is c.if-eq.ensures c.loop-variant.invariant

pub returns-clause-content : goal.returns-clause-content
returns-clause-content g c = named_nowhere c.args.name.now c.args.variants.now c.loop-variant.variant-index c.loop-variant-test.false c.loop-variant.invariant

use Rattle.std.proofs.{Common.length, lemmas.Bool.le-ltb}
use Rattle.kmip_ttlv_base.specs.Forms.{fields_of}
use Rattle.kmip_ttlv_reader.proofs.Loops.{rest_done}
use Rattle.kmip_ttlv_de.proofs.rest.read_rest.Goals as goal

pub returns-then-scope-pos-clause-step : goal.returns-then-scope-pos-clause-step
returns-then-scope-pos-clause-step g c =
    rest_done (length c.args.scope.now.bytes.now) (fields_of c.args.fields.now) c.args.deny c.args.scope.now.bytes.now c.args.scope.now.owner c.args.pos
    c.args.scope.now.end (le-ltb c.args.pos c.args.scope.now.end c.if-scope-pos.true)

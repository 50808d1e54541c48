use Rattle.std.proofs.Common.{[]}
use Rattle.kmip_ttlv_util.specs.{Pieces.Moves, Pieces.Stops, Sinks.moves_both, Sinks.stops_second}
use Rattle.kmip_ttlv_util.proofs.Saying.{ok_then, err_then}
use Rattle.kmip_ttlv_util.proofs.pieces.Pieces.push_far.Goals as goal

pub returns-clause-ok : goal.returns-clause-ok
returns-clause-ok g c =
    ok_then Moves Stops moves_both c.send_piece.result _ _ _ [] c.args.piece.now c.in_ok-finish.ensures.ok c.send_piece.ensures.ok

pub returns-clause-err : goal.returns-clause-err
returns-clause-err g c =
    err_then Moves Stops stops_second c.send_piece.result _ _ _ [] c.args.piece.now c.in_ok-finish.ensures.ok c.send_piece.ensures.err

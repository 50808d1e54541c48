use Rattle.std.proofs.Common.{◌<◌, take, get_or, arith}
use Rattle.std.proofs.lemmas.List.{get_or-take, length-take-le}
use Rattle.ttlv_run.proofs.window.front.Goals as goal

pub returns-clause-bytes : goal.returns-clause-bytes
returns-clause-bytes c = λ k lt.
    let n = c.args.count in
    let all = c.args.bytes.now in
    let here : k < n = omega (arith, lt, length-take-le n all c.requires) in
    let fits : get_or (take n all) k 0 < 256 = omega (arith, get_or-take n all k 0 here, c.type_inv.bytes k) in
    fits

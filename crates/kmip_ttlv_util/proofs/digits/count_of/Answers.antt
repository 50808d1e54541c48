use Rattle.std.proofs.Common.{arith}
use Rattle.kmip_ttlv_util.proofs.HexDigits.{hex_count}
use Rattle.kmip_ttlv_util.proofs.digits.count_of.Goals as goal

pub returns-then-n-lt16-clause-count : goal.returns-then-n-lt16-clause-count
returns-then-n-lt16-clause-count c = hex_count 0 c.args.n (omega arith) (λ h. omega arith) (omega arith)

pub returns-then-n-lt256-clause-count : goal.returns-then-n-lt256-clause-count
returns-then-n-lt256-clause-count c = hex_count 1 c.args.n (omega arith) (λ h. omega arith) (omega arith)

pub returns-then-n-lt4096-clause-count : goal.returns-then-n-lt4096-clause-count
returns-then-n-lt4096-clause-count c = hex_count 2 c.args.n (omega arith) (λ h. omega arith) (omega arith)

pub returns-else-n-lt4096-clause-count : goal.returns-else-n-lt4096-clause-count
returns-else-n-lt4096-clause-count c = hex_count 3 c.args.n (omega arith) (λ h. omega arith) (omega arith)

pub returns-then-n-lt1048576-clause-count : goal.returns-then-n-lt1048576-clause-count
returns-then-n-lt1048576-clause-count c = hex_count 4 c.args.n (omega arith) (λ h. omega arith) (omega arith)

pub returns-then-n-lt16777216-clause-count : goal.returns-then-n-lt16777216-clause-count
returns-then-n-lt16777216-clause-count c = hex_count 5 c.args.n (omega arith) (λ h. omega arith) (omega arith)

pub returns-then-n-lt268435456-clause-count : goal.returns-then-n-lt268435456-clause-count
returns-then-n-lt268435456-clause-count c = hex_count 6 c.args.n (omega arith) (λ h. omega arith) (omega arith)

pub returns-else-n-lt268435456-clause-count : goal.returns-else-n-lt268435456-clause-count
returns-else-n-lt268435456-clause-count c = hex_count 7 c.args.n (omega arith) (λ h. omega arith) (omega arith)

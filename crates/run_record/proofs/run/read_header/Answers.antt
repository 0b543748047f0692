use Rattle.std.proofs.Common.{rules}
use Rattle.run_record.proofs.Headers.{header_read}
use Rattle.run_record.proofs.run.read_header.Goals as goal

pub returns-clause-header : goal.returns-clause-header
returns-clause-header c =
    header_read c.args.reader.now.bytes.now c.in_ok-next_field.field-0.now c.in_ok-next_field-2.field-0.now c.in_ok-pose.pose.now c.in_ok-translation_basis.translation_basis.now c.in_ok-damping.damping.now _
    (search rules) (search rules) (search rules) (search rules) (search rules) (search rules)

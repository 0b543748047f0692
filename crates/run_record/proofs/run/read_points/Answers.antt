use Rattle.std.proofs.Common.{rules, ◌≡◌, ◌+◌, ◌≤◌, length, Ok}
use Rattle.run_record.specs.declared.fields.Field.TheVariants.{Point}
use Rattle.run_record.specs.Reads.{field_at}
use Rattle.run_record.proofs.Points.{begun, goes_on}
use Rattle.run_record.proofs.run.read_points.Goals as goal

pub loop-run-init : goal.loop-run-init
loop-run-init c = (search rules, begun _ _ _ c.requires.place c.requires.none)

pub loop-run-preserved : goal.loop-run-preserved
loop-run-preserved c =
    let r = c.args.reader.now.bytes.now in
    let new = c.next_field.new.self in
    let handed : field_at r Point c.loop-run.reader.at ≡ Ok c.in_ok-next_field.field-0.now = search rules in
    let moved : new.at ≡ c.loop-run.reader.at + 67 = search rules in
    let within : new.at ≤ length r = search rules in
    (search rules, goes_on r c.loop-run.reader.at c.loop-run.run c.loop-run.invariant.1 new.at c.push.new.self c.in_ok-next_field.field-0.now handed moved within (search rules))

-- WHAT A PRODUCT ABOVE THE BENCH MAY REST ON: every statement of the bench by its name, and no other. A later crate imports this page and
-- nothing below it. Each call's contract (bench/src/lib.rt) is one equation, for all arguments and any memories lent:
--     out answer (lent state' memory' lines') ≡ apply (lent state memory lines) CALL
-- A list of steps is such a call too; its function, which has the words of the results besides, is host/src/list.rt.

-- THE STATEMENTS' WORDS
-- a world is the state as tables, the token memory and the lines' memory; `lent` reads it off three lent slices
pub use Rattle.cells.specs.World.{World, lent}
-- Fresh or blank, and what each leaves
pub use Rattle.fresh.specs.Fresh.{leaves_on, start_of}
pub use Rattle.fresh.specs.declared.Start.{Start}
-- calls with their arguments; when each is refused, what it makes, and both together; a list of calls, each on what the one before left
pub use Rattle.bench.specs.Calls.{Call, came_answer, rows, made, apply}
pub use Rattle.bench.specs.Runs.{Ran, run}
-- a list of steps: each record's Step, what is left and the results; a run as its single calls
pub use Rattle.bench.specs.Calls.{step_by, stepped, results}
pub use Rattle.bench.specs.Runs.{step_of, steps_of, singly, flat}
-- what comes of a call; the paper's numbers for no and values
pub use Rattle.answers.specs.Out.{Out, out}
pub use Rattle.answers.specs.Answer.{number_of}
pub use Rattle.names.specs.No.{number, passes}
pub use Rattle.names.specs.declared.no.No.{No}
-- Sound, the ties that make it last, and both by parts
pub use Rattle.sound.specs.Sound.{sound, tight, quiet}
pub use Rattle.kept.specs.Kept.{Kept}
pub use Rattle.kept.proofs.Parts.{sound_kept, kept_sound}
pub use Rattle.kept.proofs.Calls.{start_kept}
-- OVER EVERY CALL
-- two results that meet a call's statement are equal, word for word
pub use Rattle.bench.proofs.Applied.{one_result}
-- the number is that of the first row that holds; each is given exactly under its condition; the rows rise, a start's two excepted
pub use Rattle.bench.proofs.Applied.{numbered, exactly, accepted, in_order}
-- "A refused call returns its number and changes nothing"
pub use Rattle.bench.proofs.Applied.{refused_changes_nothing, refused_words}
-- the bounds of every answer
pub use Rattle.bench.proofs.Bounded.{bounded, small_value}
-- "A Waiting or Idle step changes nothing either."
pub use Rattle.bench.proofs.Waits.{waits_change_nothing, idle_line_changes_nothing}
-- what a start leaves that is not refused
pub use Rattle.bench.proofs.Started.{started, started_sound, started_tight, started_quiet}
-- END and PAUSE free what the hop held; a circuit stays as it was opened, and its tokens go the way that it was opened
pub use Rattle.bench.specs.Frees.{took_one, Freed, Closed}
pub use Rattle.bench.proofs.Frees.{step_frees}
pub use Rattle.bench.specs.Stays.{EndsCircuit}
pub use Rattle.bench.proofs.Stays.{circuit_stays, goes_behind_lem, goes_straight_lem, behind_last, straight_last, circuit_ends}
-- each number of each call: given exactly where no earlier row refuses and its own condition holds
pub use Rattle.bench.proofs.Numbers.{NoEarlier, Refused, start_no_such, start_unsound}
pub use Rattle.bench.proofs.Numbers.{wire_unsound, wire_no_such, wire_value, wire_busy}
pub use Rattle.bench.proofs.Numbers.{set_unsound, set_no_such, set_value, set_busy_lem, aim_unsound, aim_no_such, aim_value, aim_open}
pub use Rattle.bench.proofs.Numbers.{output_unsound, output_no_such, output_unaimed, output_hardware, output_privileged}
pub use Rattle.bench.proofs.Numbers.{output_narrow, output_full, input_unsound, input_no_such, input_empty, input_trap}
pub use Rattle.bench.proofs.Numbers.{step_unsound, step_no_such, steps_no_such, line_unsound, line_no_such}
-- a write by switch message is the same Sets made by call, or nothing; the Step that ends the message is those Sets and the reply
pub use Rattle.bench.proofs.Written.{none_refused, writes_as_sets, call_writes, call_refuses}
-- a list of steps is the same Steps made one by one, on any memory; the length of its results is looked at first; Unsound is each
-- record's own
pub use Rattle.bench.proofs.Lists.{by_call, left_by_steps, results_by_steps, list_done, length_first}
pub use Rattle.bench.proofs.Lists.{unsound_results, unsound_left, results_sure, results_bounded}
-- OVER EVERY RUN
-- a run with lists in it leaves what its single calls leave; from a start on no record of a list is Unsound
pub use Rattle.bench.proofs.Lists.{flat_left, never_unsound_results}
-- what is kept is kept; no call changes how many boards there are; from a start on no call is Unsound but a start of another number
pub use Rattle.bench.specs.Lasts.{OtherBoards, NeverUnsound, Throughout}
pub use Rattle.bench.proofs.Lasts.{call_keeps, run_keeps, call_boards, run_boards, boards}
pub use Rattle.bench.proofs.Lasts.{always_sound, never_unsound, since_start}
pub use Rattle.bench.proofs.Stays.{circuit_lasts}
-- what holds of every link of every state: room, silence while disabled, nobody's while disabled, disabling once more
pub use Rattle.bench.proofs.Lasts.{always_room, always_unsent, always_silent, always_unused, always_disabled}
-- THE LOOKS: what may be read of a state, each a contract of its own for any words (`at` of each kind of record in `cells`; `looks`,
-- `sound`)
-- a node, link, port, tile link, channel-end and control unit by slot and place; how many nodes there are
pub use Rattle.cells.specs.View.{Net, view, whole_link, whole_port, whole_end, whole_unit, whole_line}
-- a direction entry, the i-th token of a port and of a channel-end, the i-th on a line
pub use Rattle.looks.specs.Looks.{direction, port_token, end_token, line_token}

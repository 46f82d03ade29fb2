use Rattle.command_words.specs.declared.job.Key.TheVariants as keys
use Rattle.command_words.proofs.Values.{value_of_key}
use Rattle.command_words.proofs.value.value_in.Goals as goal

pub returns-in-Mod : goal.returns-in-Mod
returns-in-Mod c = value_of_key c.args.key keys.Mod c.args.text.now c.modulus_in.result c.in-Mod.is c.modulus_in.ensures

pub returns-in-Deg : goal.returns-in-Deg
returns-in-Deg c = value_of_key c.args.key keys.Deg c.args.text.now c.number_from.result c.in-Deg.is c.number_from.ensures

pub returns-in-Workers : goal.returns-in-Workers
returns-in-Workers c = value_of_key c.args.key keys.Workers c.args.text.now c.number_from-in-Workers.result c.in-Workers.is c.number_from-in-Workers.ensures

pub returns-in-Show : goal.returns-in-Show
returns-in-Show c = value_of_key c.args.key keys.Show c.args.text.now c.show_in.result c.in-Show.is c.show_in.ensures

pub returns-in-Trace : goal.returns-in-Trace
returns-in-Trace c = value_of_key c.args.key keys.Trace c.args.text.now c.answer_in.result c.in-Trace.is c.answer_in.ensures

pub returns-in-Engine : goal.returns-in-Engine
returns-in-Engine c = value_of_key c.args.key keys.Engine c.args.text.now c.engine_in.result c.in-Engine.is c.engine_in.ensures

pub returns-in-Schedule : goal.returns-in-Schedule
returns-in-Schedule c = value_of_key c.args.key keys.Schedule c.args.text.now c.number_from-in-Schedule.result c.in-Schedule.is
    c.number_from-in-Schedule.ensures

pub returns-in-Number : goal.returns-in-Number
returns-in-Number c = value_of_key c.args.key keys.Number c.args.text.now c.number_from-in-Number.result c.in-Number.is c.number_from-in-Number.ensures

pub returns-in-Vars : goal.returns-in-Vars
returns-in-Vars c = value_of_key c.args.key keys.Vars c.args.text.now c.number_from-in-Vars.result c.in-Vars.is c.number_from-in-Vars.ensures

pub returns-in-Gens : goal.returns-in-Gens
returns-in-Gens c = value_of_key c.args.key keys.Gens c.args.text.now c.number_from-in-Gens.result c.in-Gens.is c.number_from-in-Gens.ensures

pub returns-in-List : goal.returns-in-List
returns-in-List c = value_of_key c.args.key keys.List c.args.text.now c.answer_in-in-List.result c.in-List.is c.answer_in-in-List.ensures

pub returns-in-Ask : goal.returns-in-Ask
returns-in-Ask c = value_of_key c.args.key keys.Ask c.args.text.now c.number_from-in-Ask.result c.in-Ask.is c.number_from-in-Ask.ensures

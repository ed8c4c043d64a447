use Rattle.poly_core.specs.Presentation.{weight_order_of}
use Rattle.worked_cases.proofs.operations.of_one.Goals as goal

pub returns-in_ok-scale-in-text : goal.returns-in_ok-scale-in-text
returns-in_ok-scale-in-text c = c.in_ok-scale-in-text.ensures.canonical (weight_order_of c.args.p.now.order) c.requires.a

pub returns-in_ok-component-in-component : goal.returns-in_ok-component-in-component
returns-in_ok-component-in-component c = c.in_ok-component-in-component.ensures.canonical c.args.p.now.field c.requires.a

pub returns-in_ok-monic-in-monic : goal.returns-in_ok-monic-in-monic
returns-in_ok-monic-in-monic c = c.in_ok-monic-in-monic.ensures.canonical (weight_order_of c.args.p.now.order) c.requires.a

use Rattle.witness.specs.laws.Members.{elements_are_members, tracked_member}
use Rattle.witness.proofs.laws.tracked_elements_are_members.Goals as goal

pub returns-clause-elements : goal.returns-clause-elements
returns-clause-elements g c P s H h = elements_are_members P H s h

pub returns-clause-values : goal.returns-clause-values
returns-clause-values g c P s t H h by tracks = tracked_member P H s h t by tracks

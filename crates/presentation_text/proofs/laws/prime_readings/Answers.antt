use Rattle.presentation_text.proofs.ReadDiffers.{readings_differ}
use Rattle.presentation_text.proofs.laws.prime_readings.Goals as goal

pub returns : goal.returns
returns c text = readings_differ text

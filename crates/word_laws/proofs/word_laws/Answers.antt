use Rattle.word_laws.specs.laws.Words.{word_laws, image_x, image_times, degree_image, s_divisor, s_smaller}
use Rattle.word_laws.proofs.word_laws.Goals as goal

pub returns-clause-order : goal.returns-clause-order
returns-clause-order c = word_laws

pub returns-clause-image : goal.returns-clause-image
returns-clause-image c = image_x

pub returns-clause-image_product : goal.returns-clause-image_product
returns-clause-image_product c = image_times

pub returns-clause-degree : goal.returns-clause-degree
returns-clause-degree c = degree_image

pub returns-clause-divisor : goal.returns-clause-divisor
returns-clause-divisor c = s_divisor

pub returns-clause-smaller : goal.returns-clause-smaller
returns-clause-smaller c = s_smaller

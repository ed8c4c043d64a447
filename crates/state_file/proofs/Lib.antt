mod DueElements

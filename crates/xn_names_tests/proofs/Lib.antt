mod Required
